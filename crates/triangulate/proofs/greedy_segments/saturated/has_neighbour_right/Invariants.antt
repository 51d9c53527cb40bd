use Rattle.std.proofs.Common.{ℕ}
use Rattle.triangulate.proofs.IncidentSegments.AroundPoint.{IsWalk}
use Rattle.triangulate.proofs.greedy_segments.saturated.has_neighbour_right.Given as goal

abbrev pub invariant-loop-at : goal.invariant-loop-at
invariant-loop-at l = IsWalk l.incident.segments l.a (λ (v : ℕ). Unit {0}) l.at

abbrev pub decreases-loop-at : goal.decreases-loop-at
decreases-loop-at l = l.at
