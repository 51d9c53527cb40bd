use Rattle.math_base.proofs.Bools.{not_both_values}
use Rattle.math_base.proofs.Lists.{contains_none}
use Rattle.gate_floods.proofs.gate_masks.flood.ways_on.Goals as goal

pub returns-then-not-has_bit : goal.returns-then-not-has_bit
returns-then-not-has_bit c = λ e. (
  (λ there. absurd (contains_none e there)),
  (λ w. absurd (not_both_values c.has_bit.result (c.has_bit.ensures.1 w.2) c.if-not-has_bit.true)),
)

pub returns : goal.returns
returns c = λ e. (
  (λ there. let w = (c.out_of.ensures e).0 there in (w.0, w.1, c.has_bit.ensures.0 c.if-not-has_bit.false)),
  (λ w. (c.out_of.ensures e).1 (w.0, w.1)),
)
