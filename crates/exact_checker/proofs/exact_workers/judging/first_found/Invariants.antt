use Rattle.exact_checker.specs.ExactWorkers.Found.{HasNone}
use Rattle.exact_checker.proofs.exact_workers.judging.first_found.Given as goal

abbrev pub invariant-loop-source : goal.invariant-loop-source
invariant-loop-source l = HasNone l.found l.source
