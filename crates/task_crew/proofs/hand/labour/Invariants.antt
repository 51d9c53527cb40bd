use Rattle.std.proofs.Common.{All}
use Rattle.task_crew.proofs.hand.labour.Given as goal

abbrev pub invariant-loop : goal.invariant-loop
invariant-loop g l = All (λ n. g.T.Tasks.is_done l.tasks n.number n.done) l.hand.done.items
