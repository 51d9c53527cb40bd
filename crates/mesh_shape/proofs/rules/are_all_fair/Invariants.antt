use Rattle.std.proofs.Common.{ℕ, ◌<◌}
use Rattle.sight_names.specs.Map.{map_of}
use Rattle.mesh_shape.specs.Faults.{IsFairAt}
use Rattle.mesh_shape.proofs.rules.are_all_fair.Given as goal

abbrev pub invariant-loop-t : goal.invariant-loop-t
invariant-loop-t l = (j : ℕ) → j < l.t-index → (i : ℕ) → IsFairAt (map_of l.plan) l.mesh.triangles j i
