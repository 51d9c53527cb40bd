use Rattle.std.proofs.Common.{rules, ◌≡◌, length, ap, ◌∙◌, sym}
use Rattle.block_evidence.proofs.SightTree.ReadBack.{read_back, spelled_themselves}
use Rattle.block_evidence.proofs.sight_tree.nodes.Nodes.of_bytes.Goals as goal

pub invariant_of-result : goal.invariant_of-result
invariant_of-result c =
    let items : c.in_ok-from_slice.field-0.items ≡ c.args.bytes.now = search rules in
    let s = c.requires.1 in
    rw items (spelled_themselves c.args.bytes.now c.requires.0 s, sym c.requires.2 ∙ ap length (sym (read_back c.args.bytes.now c.requires.0 s)))

pub returns : goal.returns
returns c =
    let items : c.in_ok-from_slice.field-0.items ≡ c.args.bytes.now = search rules in
    rw items (spelled_themselves c.args.bytes.now c.requires.0 c.requires.1)
