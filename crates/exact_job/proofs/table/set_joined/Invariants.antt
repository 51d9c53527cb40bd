use Rattle.std.specs.Prelude.{map}
use Rattle.group_job.proofs.Steps.{ListedStep}
use Rattle.group_job.specs.Marks.{SetsMore, OfSteps}
use Rattle.found_rays.specs.Lines.{pair_of_ray}
use Rattle.exact_job.proofs.table.set_joined.Given as goal

abbrev pub invariant-loop-i : goal.invariant-loop-i
invariant-loop-i l = SetsMore (OfSteps (ListedStep l.groups (map pair_of_ray l.rays)) l.i) l.initial.marks l.marks
