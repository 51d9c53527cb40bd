use Rattle.std.proofs.Common.{length, ap, arith}
use Rattle.sight_names.specs.declared.names.Pt.{Pt}
use Rattle.triangulate.proofs.GreedySegments.Starting.{all_counted}
use Rattle.triangulate.proofs.greedy_segments.rounds.all_points.Goals as goal

pub returns-clause-all : goal.returns-clause-all
returns-clause-all c = λ k lt. all_counted c.loop-k.k c.loop-k.numbers.items c.loop-k.invariant k (let e = ap (length {A = Pt}) c.points.ensures.list in omega (arith, lt, e, c.loop-k-test.false))
