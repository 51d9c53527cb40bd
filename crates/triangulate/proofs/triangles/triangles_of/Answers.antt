use Rattle.std.proofs.Common.{arith, ap, length, List}
use Rattle.sight_names.specs.Map.{map_of}
use Rattle.triangulate.specs.declared.incident_segments.segments.Segment.{Segment}
use Rattle.triangulate.proofs.IncidentSegments.KeptEdges.{any_segment}
use Rattle.triangulate.proofs.LeftTriangles.{left_more, left_all, left_numbers}
use Rattle.triangulate.proofs.triangles.triangles_of.Goals as goal
use Rattle.math_base.proofs.Lists.{item_there}

pub loop-segment-preserved : goal.loop-segment-preserved
loop-segment-preserved c = left_more (map_of c.args.plan.now) c.args.incident.now.segments c.loop-segment.segment-index c.args.incident.now.points _ c.loop-segment.triangles.items c.add_left.new.triangles.items c.add_left-in-loop-segment.new.triangles.items
    c.segments-segment-items.ensures.each
    (item_there c.segments-segment-items.result.now c.args.incident.now.segments c.loop-segment.segment-index any_segment c.segments-segment-items.ensures.list c.loop-segment-test.true)
    c.loop-segment.invariant c.in_ok-add_left.ensures c.in_ok-add_left-2.ensures

pub returns-clause-left : goal.returns-clause-left
returns-clause-left c = left_all (map_of c.args.plan.now) c.args.incident.now.segments c.loop-segment.segment-index c.loop-segment.triangles.items
    (let e = ap (λ (xs : List Segment). length xs) c.segments-segment-items.ensures.list in let t = c.loop-segment-test.false in let u = c.loop-segment.auto.segment-index-end in omega (arith, e, t, u)) c.loop-segment.invariant

pub returns-clause-numbers : goal.returns-clause-numbers
returns-clause-numbers c = left_numbers (map_of c.args.plan.now) c.args.incident.now.points c.args.incident.now.segments c.loop-segment.triangles.items c.segments-segment-items.ensures.each (left_all (map_of c.args.plan.now) c.args.incident.now.segments c.loop-segment.segment-index c.loop-segment.triangles.items
    (let e = ap (λ (xs : List Segment). length xs) c.segments-segment-items.ensures.list in let t = c.loop-segment-test.false in let u = c.loop-segment.auto.segment-index-end in omega (arith, e, t, u)) c.loop-segment.invariant)
