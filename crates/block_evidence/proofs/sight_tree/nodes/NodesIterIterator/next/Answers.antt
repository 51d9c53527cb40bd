use Rattle.std.proofs.Common.{rules, ◌≡◌, ℕ, ◌*◌, ◌∷◌, List, ap, ◌∙◌, subst, sym, arith, length, take, drop, refl}
use Rattle.block_evidence.specs.declared.sight_tree.Node.{Node}
use Rattle.block_evidence.specs.SightTree.Spelling.{SpellNodes, nodes_in_bytes, first_node}
use Rattle.block_evidence.proofs.SightTree.ReadBack.{IsFirstTaken, first_taken}
use Rattle.block_evidence.proofs.sight_tree.nodes.NodesIterIterator.next.Goals as goal

taken_first : (bytes rest : List ℕ) (k : ℕ) → SpellNodes bytes (nodes_in_bytes bytes) → bytes ≡ k ∷ rest → IsFirstTaken k rest (nodes_in_bytes bytes)
taken_first bytes rest k s parts = first_taken k rest (nodes_in_bytes bytes) (subst (λ (bs : List ℕ). SpellNodes bs (nodes_in_bytes bytes)) parts s)

-- what was left is the node and what is left behind it
step : (left : List Node) (bytes rest front back : List ℕ) (k : ℕ) (n : Node) → nodes_in_bytes bytes ≡ left → IsFirstTaken k rest (nodes_in_bytes bytes) → n ≡ first_node k front → front ≡ take (2 * k) rest → back ≡ drop (2 * k) rest
    → left ≡ n ∷ nodes_in_bytes back
step left bytes rest front back k n is t first p q = sym is ∙ t.nodes ∙ rw (first, p, q) refl

pub split_at-requires : goal.split_at-requires
split_at-requires c = (taken_first c.self.inside.bytes.now c.in_ok-kind.rest.now c.in_ok-kind.kind.now c.self.invariant (search rules)).whole

pub invariant_of-self : goal.invariant_of-self
invariant_of-self c = rw c.split_at.ensures.back (taken_first c.self.inside.bytes.now c.in_ok-kind.rest.now c.in_ok-kind.kind.now c.self.invariant (search rules)).spelled

pub returns-clause-steps : goal.returns-clause-steps
returns-clause-steps c =
    let t = taken_first c.self.inside.bytes.now c.in_ok-kind.rest.now c.in_ok-kind.kind.now c.self.invariant (search rules) in
    step c.args.self.now c.self.inside.bytes.now c.in_ok-kind.rest.now c.split_at.result.0.now c.split_at.result.1.now c.in_ok-kind.kind.now c.node_of.result c.self.view_is t
    (c.node_of.ensures c.in_ok-kind.kind.now t.most c.split_at.ensures.front_len) c.split_at.ensures.front c.split_at.ensures.back

pub returns-clause-goes : goal.returns-clause-goes
returns-clause-goes c =
    let t = taken_first c.self.inside.bytes.now c.in_ok-kind.rest.now c.in_ok-kind.kind.now c.self.invariant (search rules) in
    let h : c.args.self.now ≡ c.node_of.result ∷ nodes_in_bytes c.split_at.result.1.now =
    step c.args.self.now c.self.inside.bytes.now c.in_ok-kind.rest.now c.split_at.result.0.now c.split_at.result.1.now c.in_ok-kind.kind.now c.node_of.result c.self.view_is t
    (c.node_of.ensures c.in_ok-kind.kind.now t.most c.split_at.ensures.front_len) c.split_at.ensures.front c.split_at.ensures.back in
    record { on = λ _. (tt, tt, omega (arith, ap length h)); keeps = tt; rests = λ _. tt }
