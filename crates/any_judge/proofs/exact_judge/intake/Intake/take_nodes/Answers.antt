use Rattle.std.proofs.Common.{◌≡◌, ◌+◌, ◌-◌, ◌<◌, ◌≤◌, ◌++◌, ◌^◌, ℕ, length, sym, ap, subst, arith}
use Rattle.std.proofs.lemmas.List.{take-append-drop}
use Rattle.cert_format.proofs.FieldLaws.{IsBytes, IsBytes-take}
use Rattle.certificates.specs.ExactParts.Left.{ReaderState}
use Rattle.certificates.specs.ExactParts.Parts.{node_parts}
use Rattle.certificates.proofs.CertParts.Stretches.{reads_within}
use Rattle.any_judge.specs.ExactJudge.Judging.{HasHeard}
use Rattle.any_judge.proofs.ExactJudge.Intakes.{nodes_taken}
use Rattle.any_judge.proofs.exact_judge.intake.Intake.take_nodes.Goals as goal

pub overflow_sub-taken : goal.overflow_sub-taken
overflow_sub-taken c = let nodes = c.in_ok-rest.ensures in omega (arith, reads_within c.split_at.result.0.now nodes.nodes c.in_ok-rest.rest.now nodes.read)

pub returns-clause-heard : goal.returns-clause-heard
returns-clause-heard c = λ p t bytes w.
    let ahead = c.args.ahead.now in
    let k = c.args.self.now in
    let left = c.tree_awaited-awaited.result in
    let here = c.split_at.result.0.now in
    let back = c.split_at.result.1.now in
    let nodes = c.in_ok-rest.ensures in
    let rest = c.in_ok-rest.rest.now in
    let some : 0 < left = omega arith in
    let split : ahead ≡ here ++ back = rw (c.split_at.ensures.front, c.split_at.ensures.back) (sym (take-append-drop _ ahead)) in
    let few : k.reader.given + (length here - length rest) < 2 ^ 64 = omega (arith, c.requires, c.split_at.ensures.back_len, c.split_at.ensures.front_len) in
    let le : length here ≤ left = omega (arith, c.split_at.ensures.front_len) in
    let fit : IsBytes here = subst IsBytes (sym c.split_at.ensures.front) (IsBytes-take _ ahead (λ i. omega (arith, c.type_inv.ahead i))) in
    nodes_taken p t bytes ahead k left (c.tree_awaited-awaited.ensures some) some w nodes.nodes here rest back c.split_at-2.result.1.now _ split le fit nodes.read c.split_at-2.ensures.back
    (subst (λ (f : ℕ). HasHeard p t w.groups (w.parts ++ node_parts f nodes.nodes) c.hear_nodes.new.self) c.tree.ensures (nodes.holds p t w.groups w.parts w.heard)) (c.nodes_taken.ensures few)

pub returns-clause-countable : goal.returns-clause-countable
returns-clause-countable c =
    let nodes = c.in_ok-rest.ensures in
    let here = c.split_at.result.0.now in
    let rest = c.in_ok-rest.rest.now in
    let within : length rest ≤ length here = reads_within here nodes.nodes rest nodes.read in
    let few : c.args.self.now.reader.given + (length here - length rest) < 2 ^ 64 = omega (arith, c.requires, c.split_at.ensures.back_len) in
    let given : c.nodes_taken.new.self.given ≡ c.args.self.now.reader.given + (length here - length rest) = ap (λ (s : ReaderState). s.given) (c.nodes_taken.ensures few) in
    omega (arith, given, within, c.requires, c.split_at-2.ensures.back_len)
