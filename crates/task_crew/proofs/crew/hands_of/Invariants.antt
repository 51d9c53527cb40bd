use Rattle.std.proofs.Common.{All}
use Rattle.task_crew.proofs.crew.hands_of.Given as goal

abbrev pub invariant-loop : goal.invariant-loop
invariant-loop g l = All (λ h. All (λ n. g.T.Tasks.is_done l.tasks n.number n.done) h.done.items) l.hands.items
