use Rattle.cert_checker.proofs.TreeJudge.Stepping.{AreStepsBelow}
use Rattle.cert_checker.proofs.tree_judge.steps.steps_of.Given as goal

abbrev pub invariant-loop-number : goal.invariant-loop-number
invariant-loop-number l = AreStepsBelow l.edges l.number l.steps.items
