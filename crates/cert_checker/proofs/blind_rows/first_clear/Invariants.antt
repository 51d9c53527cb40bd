use Rattle.std.proofs.Common.{ℕ, ◌-◌, ◌<◌, ◌≤◌}
use Rattle.reject_bits.specs.Parts.{Rejects}
use Rattle.cert_checker.proofs.blind_rows.first_clear.Given as goal

abbrev pub invariant-loop-at : goal.invariant-loop-at
invariant-loop-at g l = record {
  from : l.from ≤ l.at;
  set : (a : ℕ) → l.from ≤ a → a < l.at → g.R.PairRules.is_blind l.rules a → Rejects l.table l.row a;
}

abbrev pub decreases-loop-at : goal.decreases-loop-at
decreases-loop-at g l = l.end - l.at
