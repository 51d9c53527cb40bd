use Rattle.std.proofs.Common.{◌≡◌, ℕ, Some, length, slice_get}
use Rattle.sight_names.specs.Map.{map_of}
use Rattle.portal_walk.specs.EnoughBudget.Need.{HasSequences}
use Rattle.portal_walk.proofs.enough_budget.needs.need.Given as goal

abbrev pub invariant-loop-source : goal.invariant-loop-source
invariant-loop-source l = record {
  each : length l.numbers.items ≡ l.source;
  counts : (a n : ℕ) → slice_get l.numbers.items a ≡ Some n → HasSequences (map_of l.plan) l.mesh.triangles l.labels a n;
}
