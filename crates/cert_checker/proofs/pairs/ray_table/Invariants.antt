use Rattle.cert_checker.specs.Pairs.{MarksRays}
use Rattle.cert_checker.proofs.pairs.ray_table.Given as goal

abbrev pub invariant-loop-one : goal.invariant-loop-one
invariant-loop-one l = MarksRays l.count l.one-index l.rays l.pairs
