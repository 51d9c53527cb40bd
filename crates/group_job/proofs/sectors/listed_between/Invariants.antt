use Rattle.group_job.specs.Rows.{ListedBefore}
use Rattle.group_job.proofs.sectors.listed_between.Given as goal

abbrev pub invariant-loop-a : goal.invariant-loop-a
invariant-loop-a l = ListedBefore l.these l.others l.a 0 l.listed.items
