use Rattle.std.proofs.lemmas.Grind.{common_steps}
use Rattle.std.proofs.Common.{arith}
use Rattle.reject_bits.proofs.Bits.{keeps_of_sets}
use Rattle.reject_bits.proofs.Table.set.Goals as goal

pub returns-clause-bit : goal.returns-clause-bit
returns-clause-bit c = grind (arith, common_steps)

pub returns-clause-pairs : goal.returns-clause-pairs
returns-clause-pairs c = keeps_of_sets _ _ c.args.a c.args.b c.requires.to (returns-clause-bit c)
