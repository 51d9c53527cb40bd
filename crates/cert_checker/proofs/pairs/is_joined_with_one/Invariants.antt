use Rattle.std.proofs.Common.{ℕ}
use Rattle.cert_checker.proofs.Each.{EachBelow}
use Rattle.cert_checker.proofs.pairs.is_joined_with_one.Given as goal

abbrev pub invariant-loop-other : goal.invariant-loop-other
invariant-loop-other g l = EachBelow (λ (k : ℕ). ¬ g.J.Joins.joins l.by l.one k) l.others l.other-index
