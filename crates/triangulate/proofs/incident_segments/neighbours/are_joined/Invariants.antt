use Rattle.std.proofs.Common.{◌≡◌}
use Rattle.triangulate.proofs.IncidentSegments.AroundPoint.{IsWalk}
use Rattle.triangulate.proofs.incident_segments.neighbours.are_joined.Given as goal

abbrev pub invariant-loop-at : goal.invariant-loop-at
invariant-loop-at l = IsWalk l.incident.segments l.u (λ w. ¬ (w ≡ l.v)) l.at

abbrev pub decreases-loop-at : goal.decreases-loop-at
decreases-loop-at l = l.at
