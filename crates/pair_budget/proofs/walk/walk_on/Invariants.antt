use Rattle.std.proofs.Common.{◌≡◌, ◌≢◌, ℕ, ◌<◌}
use Rattle.sight_names.specs.declared.names.Budget.TheVariants.{Full}
use Rattle.sight_names.specs.Found.{Found}
use Rattle.sight_names.specs.Map.{map_of}
use Rattle.portal_walk.specs.Walk.{SameWalk, pending, sequences_left}
use Rattle.pair_budget.specs.FoundSectors.{Extends}
use Rattle.pair_budget.specs.Notes.{ordered, EntriesGrow}
use Rattle.pair_budget.specs.Walked.{MarksFound}
use Rattle.pair_budget.proofs.Exactly.{FindsOver}
use Rattle.pair_budget.proofs.Through.{ThroughOver}
use Rattle.portal_walk.proofs.Answering.{IsOver}
use Rattle.pair_budget.proofs.Walking.{HasCovered}
use Rattle.pair_budget.proofs.walk.walk_on.Given as goal

abbrev pub invariant-loop-walker : goal.invariant-loop-walker
invariant-loop-walker g l = record {
  walk : SameWalk l.fn.walker l.walker;
  found_sectors : Extends l.fn.found_sectors l.found_sectors;
  over : IsOver l.walker;
  covered : HasCovered (pending l.fn.walker) l.walker l.found_sectors.found;
  exact : FindsOver l.walker l.fn.budget l.left l.found_sectors.found;
  through : ThroughOver l.walker l.found_sectors.found;
  full : l.fn.budget ≡ Full → l.left ≡ Full;
  hears : (b : ℕ) → b ≢ l.fn.walker.source → b < l.fn.walker.plan.sectors → Found (map_of l.fn.walker.plan) l.fn.walker.mesh.triangles l.fn.walker.labels l.fn.walker.source b l.fn.budget → g.N.Notice.may_hear l.notice (ordered l.source b);
  tag : g.N.Notice.tag l.notice ≡ g.N.Notice.tag l.fn.notice;
  kept : EntriesGrow (g.N.Notice.marks l.fn.notice) (g.N.Notice.marks l.notice);
  marks : MarksFound l.source l.found_sectors.found (g.N.Notice.marks l.fn.notice) (g.N.Notice.marks l.notice);
  claims : g.N.Notice.claims l.notice ≡ g.N.Notice.claims l.fn.notice;
  settles : g.N.Notice.may_settle l.notice ≡ g.N.Notice.may_settle l.fn.notice;
  mates : (x y : ℕ) → g.N.Notice.mates l.fn.notice x y → g.N.Notice.mates l.notice x y;
  seen : EntriesGrow (g.N.Notice.seen l.fn.notice) (g.N.Notice.seen l.notice);
  looks : EntriesGrow (g.N.Notice.looks l.fn.notice) (g.N.Notice.looks l.notice);
}

abbrev pub decreases-loop-walker : goal.decreases-loop-walker
decreases-loop-walker g l = sequences_left l.walker
