use Rattle.std.proofs.Common.{◌≡◌, ℕ, ◌+◌, ◌-◌, ◌*◌, ◌<◌, ◌≤◌}
use Rattle.sight_names.specs.Table.{table_bit}
use Rattle.reject_bits.proofs.next_bit.Given as goal

abbrev pub invariant-loop-b : goal.invariant-loop-b
invariant-loop-b l = record {
  from : l.from ≤ l.b;
  others : (k : ℕ) → l.from ≤ k → k < l.b → table_bit l.bytes (l.a * l.n + k) ≡ 1 - l.bit;
}

abbrev pub decreases-loop-b : goal.decreases-loop-b
decreases-loop-b l = l.n - l.b
