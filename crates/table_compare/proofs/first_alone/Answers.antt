use Rattle.std.proofs.Common.{◌<◌, ◌^◌, arith}
use Rattle.std.proofs.lemmas.Nat.{and_le_l}
use Rattle.std.specs.Int.RustNames.{bit_xor}
use Rattle.table_compare.proofs.Alone.{alone_of, least_bit, no_bit}
use Rattle.table_compare.proofs.first_alone.Goals as goal

pub returns-then-alone-eq0 : goal.returns-then-alone-eq0
returns-then-alone-eq0 c = no_bit c.args.byte c.args.other c.if-alone-eq0.true

pub returns : goal.returns
returns c =
    let few = and_le_l c.args.byte (bit_xor c.args.other 255) in
    let fits : alone_of c.args.byte c.args.other < 2 ^ 8 = omega (arith, few, c.ranges.byte.fits) in
    least_bit c.args.byte c.args.other (let h = c.if-alone-eq0.false in omega arith) fits
