use Rattle.group_job.proofs.Steps.{BlockStep}
use Rattle.group_job.specs.Marks.{SetsMore, OfSteps}
use Rattle.exact_job.proofs.table.set_block.Given as goal

abbrev pub invariant-loop-i : goal.invariant-loop-i
invariant-loop-i l = SetsMore (OfSteps (BlockStep l.from l.to) l.i) l.initial.table l.table
