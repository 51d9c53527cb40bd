use Rattle.std.proofs.Common.{ℕ, ◌-◌, ◌<◌}
use Rattle.sight_names.specs.Map.{map_of}
use Rattle.triangulate.specs.GreedySegments.Crossed.{SegmentsMeet, MayReach}
use Rattle.triangulate.proofs.GreedySegments.Crossed.{edge}
use Rattle.triangulate.proofs.greedy_segments.clear.is_clear.Given as goal

abbrev pub invariant-loop-u : goal.invariant-loop-u
invariant-loop-u l = (w : ℕ) → w < l.u → MayReach l.incident.segments l.i l.j w → SegmentsMeet (map_of l.plan) l.incident.segments w (edge l.i l.j)

abbrev pub decreases-loop-u : goal.decreases-loop-u
decreases-loop-u l = l.j - l.u
