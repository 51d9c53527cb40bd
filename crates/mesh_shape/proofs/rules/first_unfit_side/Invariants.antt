use Rattle.std.proofs.Common.{ℕ, ◌<◌, Bool}
use Rattle.sight_names.specs.Map.{map_of}
use Rattle.mesh_shape.specs.Faults.{FitsAt}
use Rattle.mesh_shape.proofs.rules.first_unfit_side.Given as goal

abbrev pub invariant-loop-i : goal.invariant-loop-i
invariant-loop-i l = (j : ℕ) → j < l.i → (left : Bool) → FitsAt (map_of l.plan) l.mesh.triangles l.labels (record { line = j; left = left })
