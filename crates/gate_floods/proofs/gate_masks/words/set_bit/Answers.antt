use Rattle.gate_floods.proofs.GateMasks.Bits.{bit_set, bits_kept}
use Rattle.gate_floods.proofs.gate_masks.words.set_bit.Goals as goal

pub returns-clause-set : goal.returns-clause-set
returns-clause-set c = bit_set c.args.words.now c.args.number c.requires

pub returns-clause-others : goal.returns-clause-others
returns-clause-others c = λ k differ. bits_kept c.args.words.now c.args.number k c.requires differ
