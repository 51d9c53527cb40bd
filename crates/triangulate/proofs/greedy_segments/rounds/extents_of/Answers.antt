use Rattle.std.proofs.Common.{take}
use Rattle.sight_names.specs.Map.{map_of}
use Rattle.triangulate.proofs.GreedySegments.PointExtents.{extents_taken}
use Rattle.triangulate.proofs.greedy_segments.rounds.extents_of.Goals as goal

pub loop-segment-preserved : goal.loop-segment-preserved
loop-segment-preserved c = extents_taken (map_of c.args.plan.now) c.args.incident.now.segments c.segments-segment-items.result.now c.loop-segment.segment-index _ c.add.new.self.extents.items c.segments-segment-items.ensures.list c.loop-segment-test.true (c.add.ensures (take c.loop-segment.segment-index c.args.incident.now.segments) c.loop-segment.invariant)
