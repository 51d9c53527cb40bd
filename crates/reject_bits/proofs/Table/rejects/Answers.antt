use Rattle.std.proofs.lemmas.Grind.{common_steps}
use Rattle.std.proofs.lemmas.Int.{ints}
use Rattle.std.proofs.Common.{arith}
use Rattle.reject_bits.proofs.Table.rejects.Goals as goal

pub index-requires : goal.index-requires
index-requires c = omega (arith, ints)

pub overflow_cast-result : goal.overflow_cast-result
overflow_cast-result c = omega (arith, ints)

pub overflow_shr-result : goal.overflow_shr-result
overflow_shr-result c = omega (arith, ints)

pub returns : goal.returns
returns c = grind (arith, common_steps)
