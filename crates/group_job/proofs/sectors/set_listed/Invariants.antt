use Rattle.group_job.proofs.Steps.{ListedStep}
use Rattle.group_job.specs.Marks.{SetsMore, OfSteps}
use Rattle.group_job.proofs.sectors.set_listed.Given as goal

abbrev pub invariant-loop-i : goal.invariant-loop-i
invariant-loop-i l = SetsMore (OfSteps (ListedStep l.groups l.pairs) l.i) l.initial.marks l.marks
