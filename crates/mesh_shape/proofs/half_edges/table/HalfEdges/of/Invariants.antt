use Rattle.mesh_shape.proofs.HalfEdges.EachTriangle.{EdgesBelow}
use Rattle.mesh_shape.proofs.half_edges.table.HalfEdges.of.Given as goal

abbrev pub invariant-loop-k : goal.invariant-loop-k
invariant-loop-k l = EdgesBelow l.plan l.mesh.triangles l.labels l.kinds.items l.k l.edges.items
