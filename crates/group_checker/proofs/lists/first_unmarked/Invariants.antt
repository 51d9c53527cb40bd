use Rattle.cert_checker.specs.TreeJudge.Marks.{IsFlagSet}
use Rattle.cert_checker.proofs.Each.{AtEachBelow}
use Rattle.group_checker.proofs.lists.first_unmarked.Given as goal

abbrev pub invariant-loop-f : goal.invariant-loop-f
invariant-loop-f l = AtEachBelow (IsFlagSet l.marks) l.f
