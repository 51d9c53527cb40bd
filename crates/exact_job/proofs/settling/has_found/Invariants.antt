use Rattle.std.proofs.Common.{◌≡◌, ℕ, ◌<◌, [], Some}
use Rattle.std.specs.List.{slice_get}
use Rattle.row_trees.specs.declared.made.Made.{Made}
use Rattle.exact_job.proofs.settling.has_found.Given as goal

abbrev pub invariant-loop-made : goal.invariant-loop-made
invariant-loop-made l = (f : ℕ) (w : Made) → f < l.made-index → slice_get l.walks f ≡ Some w → w.found.items ≡ []
