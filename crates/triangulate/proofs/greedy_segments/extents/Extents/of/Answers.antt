use Rattle.std.proofs.Common.{length, ap, arith}
use Rattle.sight_names.specs.declared.names.Pt.{Pt}
use Rattle.sight_names.specs.Map.{map_of}
use Rattle.sight_names.proofs.PlanNumbers.{count_of_plan}
use Rattle.triangulate.proofs.GreedySegments.PointExtents.{extents_made}
use Rattle.triangulate.proofs.greedy_segments.extents.Extents.of.Goals as goal

pub returns : goal.returns
returns c = extents_made (map_of c.args.plan.now) c.loop-k.extents.items
    (let e = count_of_plan c.args.plan.now c.points-count.ensures.plan in let f = ap (length {A = Pt}) c.points-count.ensures.list in let g = c.loop-k.invariant.count in omega (arith, c.loop-k-test.false))
    (λ u d lt. c.loop-k.invariant.none u d (let g = c.loop-k.invariant.count in omega arith))
