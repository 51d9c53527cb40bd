use Rattle.std.proofs.Common.{◌≡◌, ◌+◌, ◌-◌, ◌<◌, ◌≤◌, ◌^◌, length, ap, arith}
use Rattle.certificates.specs.CertParts.Left.{ReaderState}
use Rattle.certificates.proofs.CertParts.Stretches.{reads_within}
use Rattle.cert_judge.proofs.Intakes.{nodes_taken}
use Rattle.cert_judge.proofs.intake.Intake.take_nodes.Goals as goal

pub overflow_sub-ahead : goal.overflow_sub-ahead
overflow_sub-ahead c = let nodes = c.hear_nodes-left.ensures in omega (arith, reads_within c.args.ahead.now nodes.nodes c.hear_nodes-left.result.0.now nodes.read)

pub returns-clause-heard : goal.returns-clause-heard
returns-clause-heard c = λ p t bytes w.
    let nodes = c.hear_nodes-left.ensures in
    let rest = c.hear_nodes-left.result.0.now in
    let few : c.args.self.now.reader.given + (length c.args.ahead.now - length rest) < 2 ^ 64 = omega (arith, c.requires) in
    nodes_taken p t bytes c.args.ahead.now c.args.self.now c.nodes_awaited-count.result (c.nodes_awaited-count.ensures (omega arith)) w nodes.nodes rest c.hear_nodes-left.result.1 _ nodes.read nodes.counted (nodes.holds p t w.groups w.parts w.heard) (c.nodes_taken.ensures few)

pub returns-clause-countable : goal.returns-clause-countable
returns-clause-countable c =
    let nodes = c.hear_nodes-left.ensures in
    let rest = c.hear_nodes-left.result.0.now in
    let within : length rest ≤ length c.args.ahead.now = reads_within c.args.ahead.now nodes.nodes rest nodes.read in
    let few : c.args.self.now.reader.given + (length c.args.ahead.now - length rest) < 2 ^ 64 = omega (arith, c.requires) in
    let given : c.nodes_taken.new.self.given ≡ c.args.self.now.reader.given + (length c.args.ahead.now - length rest) = ap (λ (s : ReaderState). s.given) (c.nodes_taken.ensures few) in
    omega (arith, given, within, c.requires)

pub returns-clause-within : goal.returns-clause-within
returns-clause-within c = let nodes = c.hear_nodes-left.ensures in omega (arith, reads_within c.args.ahead.now nodes.nodes c.hear_nodes-left.result.0.now nodes.read)
