use Rattle.sight_names.specs.Map.{map_of}
use Rattle.triangulate.proofs.GreedySegments.PointExtents.{StarsUpTo}
use Rattle.triangulate.proofs.greedy_segments.extents.Extents.of.Given as goal

abbrev pub invariant-loop-k : goal.invariant-loop-k
invariant-loop-k l = StarsUpTo (map_of l.plan) l.k l.extents.items
