use Rattle.std.proofs.Common.{◌-◌, ◌<◌, ◌≤◌}
use Rattle.reject_bits.specs.Parts.{Rejects}
use Rattle.group_job.proofs.Steps.{ClearStep}
use Rattle.group_job.specs.Marks.{SetsMore, OfSteps}
use Rattle.group_job.proofs.sectors.set_clear_row.Given as goal

abbrev pub invariant-loop-k : goal.invariant-loop-k
invariant-loop-k l = record {
  within : l.k ≤ l.table.n;
  clear : l.k < l.table.n → ¬ Rejects l.table l.f l.k;
  sets : SetsMore (OfSteps (ClearStep l.groups l.table l.f) l.k) l.initial.marks l.marks;
}

abbrev pub decreases-loop-k : goal.decreases-loop-k
decreases-loop-k l = l.table.n - l.k
