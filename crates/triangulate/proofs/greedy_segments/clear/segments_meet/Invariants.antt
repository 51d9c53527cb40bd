use Rattle.std.proofs.Common.{ℕ}
use Rattle.sight_names.specs.Map.{map_of}
use Rattle.sight_names.specs.Greedy.{EdgesMeetAtEnds}
use Rattle.triangulate.proofs.IncidentSegments.AroundPoint.{IsWalk}
use Rattle.triangulate.proofs.GreedySegments.Crossed.{edge}
use Rattle.triangulate.proofs.greedy_segments.clear.segments_meet.Given as goal

abbrev pub invariant-loop-at : goal.invariant-loop-at
invariant-loop-at l = IsWalk l.incident.segments l.u (λ (v : ℕ). EdgesMeetAtEnds (map_of l.plan) (edge l.i l.j) (edge l.u v)) l.at

abbrev pub decreases-loop-at : goal.decreases-loop-at
decreases-loop-at l = l.at
