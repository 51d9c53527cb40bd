use Rattle.std.proofs.Common.{◌≤◌, length}
use Rattle.mesh_shape.proofs.IndexLemmas.{IsEntered}
use Rattle.mesh_shape.proofs.mesh.index.Given as goal

abbrev pub invariant-loop-k : goal.invariant-loop-k
invariant-loop-k l = record {
  within : l.k ≤ length l.triangles;
  entered : IsEntered l.triangles l.k l.first l.later;
}

abbrev pub decreases-loop-k : goal.decreases-loop-k
decreases-loop-k l = l.k
