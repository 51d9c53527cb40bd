use Rattle.std.proofs.Common.{rules, ◌≡◌, ℕ, ◌+◌, [], ◌∷◌, List, ◌++◌, length, ap, ◌∙◌, sym, arith}
use Rattle.block_evidence.specs.declared.sight_tree.Node.{Node}
use Rattle.block_evidence.specs.declared.sight_tree.Node.TheVariants.{Open}
use Rattle.block_evidence.specs.SightTree.Spelling.{nodes_in_bytes}
use Rattle.block_evidence.proofs.SightTree.ReadBack.{more_bytes, read_back, spelled_themselves, no_more_than_bytes, many_more}
use Rattle.block_evidence.proofs.sight_tree.nodes.Nodes.push_open.Goals as goal

pub overflow_add-self : goal.overflow_add-self
overflow_add-self c =
    let s = more_bytes c.self.inside.bytes.items c.push.new.self.items Open c.self.invariant.0 (search rules) tt tt in
    let many : length (nodes_in_bytes c.self.inside.bytes.items ++ Open ∷ []) ≡ length (nodes_in_bytes c.self.inside.bytes.items) + 1 = many_more _ _ in
    record { fits = omega (arith, no_more_than_bytes _ _ s, many, c.self.invariant.1, c.push.new.self.ok.0, c.push.new.self.ok.1, c.push.new.self.small) }

pub invariant_of-self-2 : goal.invariant_of-self-2
invariant_of-self-2 c =
    let s = more_bytes c.self.inside.bytes.items c.push.new.self.items Open c.self.invariant.0 (search rules) tt tt in
    (spelled_themselves _ _ s, ap (λ (n : ℕ). n + 1) c.self.invariant.1 ∙ sym (many_more (nodes_in_bytes c.self.inside.bytes.items) Open) ∙ ap length (sym (read_back _ _ s)))

pub returns-clause-ok : goal.returns-clause-ok
returns-clause-ok c =
    let s = more_bytes c.self.inside.bytes.items c.push.new.self.items Open c.self.invariant.0 (search rules) tt tt in
    read_back _ _ s ∙ ap (λ (ns : List Node). ns ++ Open ∷ []) c.self.view_is
