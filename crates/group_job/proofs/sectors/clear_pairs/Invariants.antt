use Rattle.group_job.proofs.Steps.{ClearRowStep}
use Rattle.group_job.specs.Marks.{HasStepBits}
use Rattle.group_job.proofs.sectors.clear_pairs.Given as goal

abbrev pub invariant-loop-f : goal.invariant-loop-f
invariant-loop-f l = HasStepBits (ClearRowStep l.groups l.table) l.f l.sectors l.marks
