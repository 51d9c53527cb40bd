use Rattle.group_job.specs.Marks.{SetsMore, OfSteps}
use Rattle.exact_job.proofs.Tables.{OwnStep}
use Rattle.exact_job.proofs.table.set_own.Given as goal

abbrev pub invariant-loop-i : goal.invariant-loop-i
invariant-loop-i l = SetsMore (OfSteps (OwnStep l.groups) l.i) l.initial.marks l.marks
