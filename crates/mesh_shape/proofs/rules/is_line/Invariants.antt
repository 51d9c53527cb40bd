use Rattle.std.proofs.Common.{ℕ, ◌<◌}
use Rattle.sight_names.specs.Map.{map_of}
use Rattle.mesh_shape.specs.Search.{IsEdgeOf}
use Rattle.mesh_shape.proofs.rules.is_line.Given as goal

abbrev pub invariant-loop-i : goal.invariant-loop-i
invariant-loop-i l = (j : ℕ) → j < l.i → ¬ IsEdgeOf (map_of l.plan) (record { from = l.u; to = l.v }) j
