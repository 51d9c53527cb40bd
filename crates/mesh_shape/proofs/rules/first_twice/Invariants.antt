use Rattle.std.proofs.Common.{ℕ, ◌<◌}
use Rattle.mesh_shape.specs.Faults.{IsNewAt}
use Rattle.mesh_shape.proofs.rules.first_twice.Given as goal

abbrev pub invariant-loop-k : goal.invariant-loop-k
invariant-loop-k l = (j : ℕ) → j < l.k → IsNewAt l.mesh.triangles j
