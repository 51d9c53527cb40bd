use Rattle.group_job.proofs.Steps.{PairStep}
use Rattle.group_job.specs.Marks.{SetsMore, OfSteps}
use Rattle.group_job.proofs.sectors.set_pairs.Given as goal

abbrev pub invariant-loop-i : goal.invariant-loop-i
invariant-loop-i l = SetsMore (OfSteps (PairStep l.pairs) l.i) l.initial.table l.table
