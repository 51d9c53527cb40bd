use Rattle.group_job.proofs.Steps.{RowStep}
use Rattle.group_job.specs.Marks.{SetsMore, OfSteps}
use Rattle.exact_job.proofs.table.set_row.Given as goal

abbrev pub invariant-loop-i : goal.invariant-loop-i
invariant-loop-i l = SetsMore (OfSteps (RowStep l.a l.sectors) l.i) l.initial.table l.table
