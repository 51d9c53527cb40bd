use Rattle.std.proofs.Common.{ℕ, ◌<◌}
use Rattle.sight_names.specs.Map.{map_of}
use Rattle.mesh_shape.specs.Faults.{HasMatesAt}
use Rattle.mesh_shape.proofs.rules.first_without_mate.Given as goal

abbrev pub invariant-loop-k : goal.invariant-loop-k
invariant-loop-k l = (j : ℕ) → j < l.k → HasMatesAt (map_of l.plan) l.mesh.triangles l.labels j
