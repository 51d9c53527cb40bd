use Rattle.math_base.proofs.Bools.{not_both_values}
use Rattle.gate_floods.proofs.GateMasks.Keeping.{bit_more, bit_same}
use Rattle.gate_floods.proofs.gate_masks.masks.keep.Goals as goal

pub returns-then-not-has_bit : goal.returns-then-not-has_bit
returns-then-not-has_bit c = bit_same c.args.number c.args.words.now c.args.other.now (λ h. not_both_values c.has_bit.result (c.has_bit.ensures.1 h) c.if-not-has_bit.true)

pub returns : goal.returns
returns c = bit_more c.args.number c.args.words.now c.set_bit.new.words c.args.other.now (c.has_bit.ensures.0 c.if-not-has_bit.false) c.set_bit.ensures.set c.set_bit.ensures.others
