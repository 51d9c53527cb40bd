use Rattle.std.proofs.Common.{ℕ}
use Rattle.cert_checker.specs.Pairs.{IsJoinedWithOne}
use Rattle.cert_checker.proofs.Each.{EachBelow}
use Rattle.cert_checker.proofs.pairs.are_some_joined.Given as goal

abbrev pub invariant-loop-one : goal.invariant-loop-one
invariant-loop-one g l = EachBelow (λ (f : ℕ). ¬ IsJoinedWithOne (g.J.Joins.joins l.by) f l.others) l.ones l.one-index
