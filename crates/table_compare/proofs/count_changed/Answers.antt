use Rattle.std.proofs.Common.{◌≡◌, ◌<◌, ◌≤◌, ◌+◌, ◌*◌, ◌^◌, ℕ, List, length, arith}
use Rattle.std.proofs.lemmas.List.FromFn.{length-range_with_len}
use Rattle.std.proofs.lemmas.List.Sums.{count_by-le-length}
use Rattle.std.specs.List.{count_by, range_with_len}
use Rattle.table_compare.specs.Compared.{is_alone}
use Rattle.table_compare.proofs.count_changed.Goals as goal

few : (one other : List ℕ) (count : ℕ) → count ≡ count_by (is_alone one other) (range_with_len 0 (8 * length one)) → count ≤ 8 * length one
few one other count e = omega (arith, e, count_by-le-length (is_alone one other) (range_with_len 0 (8 * length one)), length-range_with_len 0 (8 * length one))

pub overflow_add-result : goal.overflow_add-result
overflow_add-result c =
    let a = few c.args.one.now c.args.other.now c.count_bits.result c.count_bits.ensures in
    let b = few c.args.other.now c.args.one.now c.count_bits-2.result c.count_bits-2.ensures in
    omega (arith, a, b, c.requires.same, c.requires.short)
