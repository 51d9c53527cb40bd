use Rattle.std.proofs.Common.{◌-◌, length}
use Rattle.mesh_shape.proofs.IndexLemmas.{IsSearched}
use Rattle.mesh_shape.proofs.mesh.Mesh.triangle_at.Given as goal

abbrev pub invariant-loop-at : goal.invariant-loop-at
invariant-loop-at l = IsSearched l.self-inside.triangles.items (record { from = l.u; to = l.v }) l.at

abbrev pub decreases-loop-at : goal.decreases-loop-at
decreases-loop-at l = length l.self-inside.triangles.items - l.at
