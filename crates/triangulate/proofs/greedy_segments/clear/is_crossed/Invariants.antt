use Rattle.std.proofs.Common.{◌<◌, ℕ, length, IfSome}
use Rattle.sight_names.specs.Map.{map_of}
use Rattle.sight_names.specs.Greedy.{EdgesMeetAtEnds}
use Rattle.triangulate.proofs.IncidentSegments.AroundPoint.{IsWalk}
use Rattle.triangulate.proofs.GreedySegments.Crossed.{edge}
use Rattle.triangulate.proofs.greedy_segments.clear.is_crossed.Given as goal

abbrev pub invariant-loop-at : goal.invariant-loop-at
invariant-loop-at l = record {
  walk : IsWalk l.incident.segments l.i (λ (v : ℕ). EdgesMeetAtEnds (map_of l.plan) (edge l.i l.j) (edge l.i v)) l.at;
  left : IfSome l.left (λ d. d < length l.plan.points);
  right : IfSome l.right (λ d. d < length l.plan.points);
}

abbrev pub decreases-loop-at : goal.decreases-loop-at
decreases-loop-at l = l.at
