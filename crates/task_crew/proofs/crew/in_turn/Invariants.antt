use Rattle.task_crew.specs.Done.{AreTasksDone}
use Rattle.task_crew.proofs.crew.in_turn.Given as goal

abbrev pub invariant-loop-number : goal.invariant-loop-number
invariant-loop-number g l = AreTasksDone (g.T.Tasks.is_done l.tasks) l.number l.all.items
