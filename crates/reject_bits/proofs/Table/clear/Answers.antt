use Rattle.std.proofs.lemmas.Grind.{common_steps}
use Rattle.std.proofs.lemmas.Int.{ints}
use Rattle.std.proofs.Common.{arith}
use Rattle.reject_bits.proofs.Table.clear.Goals as goal

pub byte_len-requires : goal.byte_len-requires
byte_len-requires c = omega (arith, ints)

pub invariant_of-result : goal.invariant_of-result
invariant_of-result c = grind (arith, common_steps)

pub returns-clause-sectors : goal.returns-clause-sectors
returns-clause-sectors c = omega (arith, ints)

pub returns-clause-whole : goal.returns-clause-whole
returns-clause-whole c = grind (arith, common_steps)
