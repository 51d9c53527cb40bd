use Rattle.std.proofs.Common.{◌*◌}
use Rattle.mesh_shape.proofs.HalfEdges.EachLine.{KindsBelow}
use Rattle.mesh_shape.proofs.half_edges.kinds.kinds_of.Given as goal

abbrev pub invariant-loop-number : goal.invariant-loop-number
invariant-loop-number l = KindsBelow l.plan l.mesh.triangles (l.number * 2) l.kinds.items
