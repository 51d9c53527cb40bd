use Rattle.reject_bits.proofs.Bits.{bit_set, bit_kept}
use Rattle.reject_bits.proofs.set_bit.Goals as goal

pub returns-clause-set : goal.returns-clause-set
returns-clause-set c = bit_set c.args.bytes.now c.args.bit c.requires

pub returns-clause-others : goal.returns-clause-others
returns-clause-others c = λ k differ. bit_kept c.args.bytes.now c.args.bit k c.requires differ
