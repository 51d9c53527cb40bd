use Rattle.std.proofs.Common.{ℕ, Contains}
use Rattle.pair_answer.specs.Numbers.{IsAmongFirst}
use Rattle.pair_answer.proofs.places.share_one.Given as goal

abbrev pub invariant-loop-i : goal.invariant-loop-i
invariant-loop-i l = (x : ℕ) → IsAmongFirst l.i l.these x → ¬ Contains l.those x
