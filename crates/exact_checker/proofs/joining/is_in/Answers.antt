use Rattle.exact_checker.proofs.joining.is_in.Goals as goal

pub returns : goal.returns
returns c = (
  (λ t. (c.words_of.ensures c.args.other).0 (c.has_bit.ensures.0 t)),
  (λ h. c.has_bit.ensures.1 ((c.words_of.ensures c.args.other).1 h)),
)
