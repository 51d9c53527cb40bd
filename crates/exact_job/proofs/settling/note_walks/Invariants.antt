use Rattle.exact_job.proofs.Rounds.{AreNotedBelow}
use Rattle.exact_job.proofs.settling.note_walks.Given as goal

abbrev pub invariant-loop-source : goal.invariant-loop-source
invariant-loop-source l = AreNotedBelow l.walks l.source l.initial.rays.items l.rays.items
