use Rattle.std.proofs.Common.{ℕ, ◌<◌}
use Rattle.cert_checker.proofs.blind_rows.first_blind.Given as goal

abbrev pub invariant-loop-a : goal.invariant-loop-a
invariant-loop-a g l = (b : ℕ) → b < l.a → ¬ g.R.PairRules.is_blind l.rules b
