use Rattle.std.proofs.Common.{take}
use Rattle.sight_names.specs.Map.{map_of}
use Rattle.triangulate.specs.GreedySegments.Extents.{AreExtents}
use Rattle.triangulate.proofs.greedy_segments.rounds.extents_of.Given as goal

abbrev pub invariant-loop-segment : goal.invariant-loop-segment
invariant-loop-segment l = AreExtents (map_of l.plan) (take l.segment-index l.incident.segments) l.extents.extents.items
