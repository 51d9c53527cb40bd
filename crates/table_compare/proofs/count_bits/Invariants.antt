use Rattle.std.proofs.Common.{◌≡◌, ◌≤◌, ◌*◌}
use Rattle.std.specs.List.{count_by, range_with_len}
use Rattle.table_compare.specs.Compared.{is_alone}
use Rattle.table_compare.proofs.count_bits.Given as goal

abbrev pub invariant-loop-i : goal.invariant-loop-i
invariant-loop-i l = record {
  count : l.count ≡ count_by (is_alone l.one l.other) (range_with_len 0 (8 * l.i));
  few : l.count ≤ 8 * l.i;
}
