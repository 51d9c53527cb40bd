use Rattle.std.proofs.Common.{ap, arith}
use Rattle.sight_names.specs.declared.names.Pt.{Pt}
use Rattle.sight_names.specs.Map.{map_of}
use Rattle.sight_names.proofs.PlanNumbers.{count_of_plan}
use Rattle.triangulate.proofs.GreedySegments.PointExtents.{extents_added}
use Rattle.triangulate.proofs.greedy_segments.extents.Extents.add.Goals as goal

pub widen-requires : goal.widen-requires
widen-requires c = let p = c.requires.points in let e = count_of_plan c.args.plan.now c.place-start.ensures.plan in omega (arith, c.requires.first)

pub widen-requires-2 : goal.widen-requires-2
widen-requires-2 c = let p = c.requires.points in let e = count_of_plan c.args.plan.now c.place-start.ensures.plan in let f = c.widen.ensures.each_point in omega (arith, c.requires.second)

pub returns : goal.returns
returns c = λ segments extents. extents_added (map_of c.args.plan.now) segments c.args.self.now.extents.items c.widen.new.self.extents.items c.widen-2.new.self.extents.items c.args.from c.args.to c.place-end.result.y c.place-start.result.y extents
    (ap (λ (p : Pt). p.y) c.place-start.ensures.place) (ap (λ (p : Pt). p.y) c.place-end.ensures.place) c.widen.ensures c.widen-2.ensures
