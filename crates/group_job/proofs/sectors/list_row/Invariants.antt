use Rattle.std.proofs.Common.{◌-◌, ◌<◌, ◌≤◌}
use Rattle.reject_bits.specs.Parts.{Rejects}
use Rattle.group_job.specs.Rows.{ListedBefore}
use Rattle.group_job.proofs.sectors.list_row.Given as goal

abbrev pub invariant-loop-b : goal.invariant-loop-b
invariant-loop-b l = record {
  above : l.a < l.b;
  within : l.b ≤ l.these.n;
  set : l.b < l.these.n → Rejects l.these l.a l.b;
  list : ListedBefore l.these l.others l.a l.b l.listed.items;
}

abbrev pub decreases-loop-b : goal.decreases-loop-b
decreases-loop-b l = l.these.n - l.b
