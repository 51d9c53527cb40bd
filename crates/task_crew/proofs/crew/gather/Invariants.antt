use Rattle.std.proofs.Common.{All, length}
use Rattle.task_crew.specs.Done.{Stand}
use Rattle.task_crew.proofs.crew.gather.Given as goal

abbrev pub invariant-hands : goal.invariant-hands
invariant-hands g l = All (λ h. All (λ n. g.T.Tasks.is_done l.tasks n.number n.done) h.done.items) l.hands.items × Stand (g.T.Tasks.is_done l.tasks) l.slots.items

abbrev pub decreases-hands : goal.decreases-hands
decreases-hands g l = length l.hands.items
