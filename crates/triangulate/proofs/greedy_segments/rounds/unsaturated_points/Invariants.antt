use Rattle.std.proofs.Common.{length}
use Rattle.sight_names.specs.Map.{map_of}
use Rattle.triangulate.specs.IncidentSegments.Kept.{edges_of}
use Rattle.triangulate.specs.GreedySegments.Searched.{AreSearched}
use Rattle.triangulate.proofs.GreedySegments.Starting.{OpenUpTo}
use Rattle.triangulate.proofs.greedy_segments.rounds.unsaturated_points.Given as goal

abbrev pub invariant-loop-k : goal.invariant-loop-k
invariant-loop-k l = record {
  opened : OpenUpTo (map_of l.plan) (edges_of l.incident.segments) (length l.plan.points) l.unsaturated l.k-index l.others.items;
  searched : AreSearched (map_of l.plan) l.searched.triangles.items;
}
