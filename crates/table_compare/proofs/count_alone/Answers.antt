use Rattle.std.proofs.Common.{◌<◌, ◌^◌, ◌∙◌, arith}
use Rattle.std.proofs.lemmas.Nat.{and_le_l}
use Rattle.std.proofs.lemmas.List.FromFn.{length-range_with_len}
use Rattle.std.proofs.lemmas.List.Sums.{count_by-le-length}
use Rattle.std.specs.List.{range_with_len}
use Rattle.std.specs.Int.RustNames.{bit_xor}
use Rattle.table_compare.specs.Compared.{has_alone}
use Rattle.table_compare.proofs.Alone.{alone_of, count_of_byte}
use Rattle.table_compare.proofs.count_alone.Goals as goal

pub returns-clause-count : goal.returns-clause-count
returns-clause-count c =
    let few = and_le_l c.args.byte (bit_xor c.args.other 255) in
    let fits : alone_of c.args.byte c.args.other < 2 ^ 8 = omega (arith, few, c.ranges.byte.fits) in
    c.from.ensures ∙ count_of_byte c.args.byte c.args.other fits

pub returns-clause-few : goal.returns-clause-few
returns-clause-few c = let e = returns-clause-count c in omega (arith, e, count_by-le-length (has_alone c.args.byte c.args.other) (range_with_len 0 8), length-range_with_len 0 8)
