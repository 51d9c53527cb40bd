use Rattle.sight_names.specs.Map.{map_of}
use Rattle.triangulate.proofs.LeftTriangles.{LeftSoFar}
use Rattle.triangulate.proofs.triangles.triangles_of.Given as goal

abbrev pub invariant-loop-segment : goal.invariant-loop-segment
invariant-loop-segment l = LeftSoFar (map_of l.plan) l.incident.segments l.segment-index l.triangles.items
