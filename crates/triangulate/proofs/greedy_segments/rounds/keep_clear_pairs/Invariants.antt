use Rattle.std.proofs.Common.{◌≡◌, length, Contains}
use Rattle.sight_names.specs.Map.{map_of}
use Rattle.sight_names.specs.Points.{Edge}
use Rattle.triangulate.specs.IncidentSegments.Kept.{edges_of}
use Rattle.triangulate.specs.GreedySegments.Extents.{AreExtents}
use Rattle.triangulate.proofs.GreedySegments.SoFar.{TriesBefore}
use Rattle.triangulate.proofs.greedy_segments.rounds.keep_clear_pairs.Given as goal

abbrev pub invariant-loop-pair : goal.invariant-loop-pair
invariant-loop-pair l = record {
  points : l.incident.points ≡ length l.plan.points;
  extents : AreExtents (map_of l.plan) l.incident.segments l.extents.extents.items;
  kept : (f : Edge) → Contains (edges_of l.initial.incident.segments) f → Contains (edges_of l.incident.segments) f;
  tried : TriesBefore (map_of l.plan) l.pairs l.pair-index (edges_of l.initial.incident.segments) (edges_of l.incident.segments);
}
