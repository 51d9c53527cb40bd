use Rattle.cert_checker.specs.Pairs.{facts_of, AreShownApart}
use Rattle.cert_checker.proofs.Each.{EachBelow}
use Rattle.cert_checker.proofs.pairs.is_apart_from_all.Given as goal

abbrev pub invariant-loop-other : goal.invariant-loop-other
invariant-loop-other l = EachBelow (AreShownApart (facts_of l.known) l.one) l.others l.other-index
