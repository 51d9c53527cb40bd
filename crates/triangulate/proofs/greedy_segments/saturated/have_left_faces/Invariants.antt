use Rattle.std.proofs.Common.{ℕ}
use Rattle.sight_names.specs.Map.{map_of}
use Rattle.triangulate.specs.GreedySegments.Saturated.{HasFaceLeft}
use Rattle.triangulate.specs.GreedySegments.Searched.{AreSearched}
use Rattle.triangulate.proofs.IncidentSegments.AroundPoint.{IsWalk}
use Rattle.triangulate.proofs.greedy_segments.saturated.have_left_faces.Given as goal

abbrev pub invariant-loop-at : goal.invariant-loop-at
invariant-loop-at l = record {
  faces : IsWalk l.incident.segments l.a (λ (v : ℕ). HasFaceLeft (map_of l.plan) l.incident.segments l.a v) l.at;
  searched : AreSearched (map_of l.plan) l.searched.triangles.items;
}

abbrev pub decreases-loop-at : goal.decreases-loop-at
decreases-loop-at l = l.at
