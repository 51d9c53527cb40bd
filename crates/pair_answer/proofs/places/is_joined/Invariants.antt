use Rattle.std.proofs.Common.{◌≡◌, ℕ, slice_get}
use Rattle.pair_answer.specs.Numbers.{IsAmongFirst}
use Rattle.pair_answer.proofs.places.is_joined.Given as goal

abbrev pub invariant-loop-i : goal.invariant-loop-i
invariant-loop-i l = (k : ℕ) → IsAmongFirst l.i l.others k → ¬ (slice_get l.components k ≡ slice_get l.components l.group)
