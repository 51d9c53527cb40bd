use Rattle.std.proofs.Common.{◌≡◌, ℕ, ◌<◌, ◌≤◌, Some}
use Rattle.std.specs.Prelude.{slice_get}
use Rattle.sight_names.specs.declared.limits.TheConstants.{RIGHT_END}
use Rattle.sight_names.specs.declared.names.EndAt.{EndAt}
use Rattle.block_evidence.proofs.hulls.first_left.Given as goal

abbrev pub invariant-loop-k : goal.invariant-loop-k
invariant-loop-k l = (k : ℕ) → k < l.k → (e : EndAt) → slice_get l.ends k ≡ Some e → RIGHT_END ≤ e.code
