use Rattle.std.proofs.Common.{ℕ, ◌<◌}
use Rattle.reject_bits.specs.Parts.{Rejects}
use Rattle.cert_checker.proofs.blind_rows.columns_set.Given as goal

abbrev pub invariant-loop-row : goal.invariant-loop-row
invariant-loop-row g l = (a b : ℕ) → g.R.PairRules.is_blind l.rules a → a < l.before → a < b → b < l.row → Rejects l.table b a
