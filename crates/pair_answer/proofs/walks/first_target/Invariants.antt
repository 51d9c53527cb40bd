use Rattle.std.proofs.Common.{◌≡◌, ℕ, ◌<◌, Some, slice_get, Contains}
use Rattle.pair_budget.specs.declared.results.Reached.{Reached}
use Rattle.pair_answer.proofs.walks.first_target.Given as goal

abbrev pub invariant-loop-i : goal.invariant-loop-i
invariant-loop-i l = (k : ℕ) (r : Reached) → k < l.i → slice_get l.found k ≡ Some r → ¬ Contains l.targets r.to
