use Rattle.std.proofs.Common.{◌<◌, length, IfSome}
use Rattle.sight_names.specs.Map.{map_of}
use Rattle.triangulate.specs.IncidentSegments.Next.{IsBehindRight}
use Rattle.triangulate.proofs.IncidentSegments.AroundPoint.{IsWalk}
use Rattle.triangulate.proofs.IncidentSegments.FirstOnSide.{IsHeldRight}
use Rattle.triangulate.proofs.incident_segments.neighbours.next_right.Given as goal

abbrev pub invariant-loop-at : goal.invariant-loop-at
invariant-loop-at l = record {
  walk : IsWalk l.incident.segments l.a (λ w. IsBehindRight (map_of l.plan) l.from l.to l.best w) l.at;
  within : IfSome l.best (λ d. d < length l.plan.points);
  held : IsHeldRight (map_of l.plan) l.incident.segments l.a l.from l.to l.best;
}

abbrev pub decreases-loop-at : goal.decreases-loop-at
decreases-loop-at l = l.at
