use Rattle.std.proofs.lemmas.Grind.{common_steps}
use Rattle.std.proofs.lemmas.Int.{ints}
use Rattle.std.proofs.Common.{arith}
use Rattle.reject_bits.proofs.Table.of_bytes.Goals as goal

pub byte_len-expected-requires : goal.byte_len-expected-requires
byte_len-expected-requires c = omega (arith, ints)

pub returns-then-bytes-expected-clause-takes : goal.returns-then-bytes-expected-clause-takes
returns-then-bytes-expected-clause-takes c = omega (arith, ints)

pub returns-then-bytes-expected-clause-whole : goal.returns-then-bytes-expected-clause-whole
returns-then-bytes-expected-clause-whole c = omega (arith, ints)

pub invariant_of-result : goal.invariant_of-result
invariant_of-result c = grind (arith, common_steps)

pub returns-clause-takes : goal.returns-clause-takes
returns-clause-takes c = grind (arith, common_steps)

pub returns-clause-whole : goal.returns-clause-whole
returns-clause-whole c = grind (arith, common_steps)
