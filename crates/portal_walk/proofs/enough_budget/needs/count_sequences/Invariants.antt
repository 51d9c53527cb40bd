use Rattle.std.proofs.Common.{◌≡◌}
use Rattle.portal_walk.specs.Walk.{sequences_left}
use Rattle.portal_walk.proofs.EnoughBudget.Counting.{Counted}
use Rattle.portal_walk.proofs.enough_budget.needs.count_sequences.Given as goal

abbrev pub invariant-loop-walker : goal.invariant-loop-walker
invariant-loop-walker l = record {
  plan : l.walker.plan ≡ l.fn.plan;
  mesh : l.walker.mesh ≡ l.fn.mesh;
  labels : l.walker.labels ≡ l.fn.labels;
  source : l.walker.source ≡ l.fn.source;
  counted : Counted l.walker l.count;
}

abbrev pub decreases-loop-walker : goal.decreases-loop-walker
decreases-loop-walker l = sequences_left l.walker
