use Rattle.std.proofs.Common.{take}
use Rattle.sight_names.specs.Map.{map_of}
use Rattle.triangulate.specs.IncidentSegments.Kept.{edges_of}
use Rattle.triangulate.specs.GreedySegments.Rounds.{LeavesUncrossed}
use Rattle.triangulate.proofs.greedy_segments.parts.uncrossed.Given as goal

abbrev pub invariant-loop-pair : goal.invariant-loop-pair
invariant-loop-pair l = LeavesUncrossed (map_of l.plan) (edges_of l.incident.segments) (take l.pair-index l.pairs) l.left.items
