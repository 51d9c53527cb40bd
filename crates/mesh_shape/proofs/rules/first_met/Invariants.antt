use Rattle.std.proofs.Common.{ℕ, ◌<◌}
use Rattle.sight_names.specs.Map.{map_of}
use Rattle.mesh_shape.specs.Search.{IsLineMetFairly}
use Rattle.mesh_shape.proofs.rules.first_met.Given as goal

abbrev pub invariant-loop-i : goal.invariant-loop-i
invariant-loop-i l = (j : ℕ) → j < l.i → IsLineMetFairly (map_of l.plan) l.t j
