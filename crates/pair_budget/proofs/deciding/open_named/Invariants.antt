use Rattle.pair_budget.specs.Opened.{OpensNamed}
use Rattle.pair_budget.proofs.deciding.open_named.Given as goal

abbrev pub invariant-loop-a : goal.invariant-loop-a
invariant-loop-a l = OpensNamed l.named l.a l.initial.seen l.seen
