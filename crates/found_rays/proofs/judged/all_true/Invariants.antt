use Rattle.std.proofs.Common.{◌≡◌, ℕ, ◌<◌, Bool, true, get_or}
use Rattle.found_rays.proofs.judged.all_true.Given as goal

abbrev pub invariant-loop-one : goal.invariant-loop-one
invariant-loop-one l = (k : ℕ) (d : Bool) → k < l.one-index → get_or l.found k d ≡ true
