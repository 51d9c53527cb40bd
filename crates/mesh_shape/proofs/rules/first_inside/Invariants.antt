use Rattle.std.proofs.Common.{ℕ, ◌<◌}
use Rattle.sight_names.specs.Map.{map_of}
use Rattle.mesh_shape.specs.Faults.{IsEmptyAt}
use Rattle.mesh_shape.proofs.rules.first_inside.Given as goal

abbrev pub invariant-loop-k : goal.invariant-loop-k
invariant-loop-k l = (j : ℕ) → j < l.k → (p : ℕ) → IsEmptyAt (map_of l.plan) l.mesh.triangles j p
