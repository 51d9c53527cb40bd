use Rattle.std.proofs.Common.{ℕ}
use Rattle.sight_names.specs.Map.{map_of}
use Rattle.triangulate.specs.GreedySegments.Saturated.{HasFaceRight}
use Rattle.triangulate.proofs.IncidentSegments.AroundPoint.{IsWalk}
use Rattle.triangulate.proofs.greedy_segments.saturated.have_right_faces.Given as goal

abbrev pub invariant-loop-at : goal.invariant-loop-at
invariant-loop-at l = IsWalk l.incident.segments l.a (λ (v : ℕ). HasFaceRight (map_of l.plan) l.incident.segments l.a v) l.at

abbrev pub decreases-loop-at : goal.decreases-loop-at
decreases-loop-at l = l.at
