use Rattle.group_checker.specs.CheckWorkers.Joined.{TakesIn}
use Rattle.group_checker.proofs.check_workers.join.take_in.Given as goal

abbrev pub invariant-loop-source : goal.invariant-loop-source
invariant-loop-source l = TakesIn l.source l.part.walked.items l.part.reached l.fn.walked l.walked l.fn.reached l.reached
