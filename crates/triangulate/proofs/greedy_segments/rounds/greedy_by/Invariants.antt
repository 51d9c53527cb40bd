use Rattle.std.proofs.Common.{◌+◌, ◌/◌, ◌≡◌, ◌≤◌, ◌<◌, ◌-◌, ◌⊎◌, ℕ, length, Contains}
use Rattle.sight_names.specs.Map.{map_of}
use Rattle.triangulate.specs.IncidentSegments.Kept.{edges_of}
use Rattle.triangulate.specs.GreedySegments.Pairs.{AreNumbers}
use Rattle.triangulate.specs.GreedySegments.Rounds.{IsGreedySoFar, IsShorter, IsSaturated}
use Rattle.triangulate.specs.GreedySegments.Extents.{AreExtents}
use Rattle.triangulate.specs.GreedySegments.Searched.{AreSearched}
use Rattle.triangulate.proofs.greedy_segments.rounds.greedy_by.Given as goal

abbrev pub invariant-loop-low : goal.invariant-loop-low
invariant-loop-low g l = record {
  points : l.incident.points ≡ length l.plan.points;
  extents : AreExtents (map_of l.plan) l.incident.segments l.extents.extents.items;
  searched : AreSearched (map_of l.plan) l.searched.triangles.items;
  numbers : AreNumbers (length l.plan.points) l.unsaturated.items;
  bounds : ((l.low ≡ 0) × (l.high ≡ 64)) ⊎ ((l.high ≡ l.low + l.low / 2) × (2 ≤ l.low) × (l.low ≤ 201326594));
  so_far : IsGreedySoFar (map_of l.plan) (IsShorter (map_of l.plan) l.low) (edges_of l.incident.segments);
  closed : (k : ℕ) → k < length l.plan.points → Contains l.unsaturated.items k ⊎ IsSaturated (map_of l.plan) (edges_of l.incident.segments) k;
}

abbrev pub decreases-loop-low : goal.decreases-loop-low
decreases-loop-low g l = (201326595 - l.low)
