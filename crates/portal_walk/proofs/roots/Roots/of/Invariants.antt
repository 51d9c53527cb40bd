use Rattle.portal_walk.proofs.RootOrder.{HasRootsBelow, items_of}
use Rattle.portal_walk.proofs.roots.Roots.of.Given as goal

abbrev pub invariant-loop-k : goal.invariant-loop-k
invariant-loop-k l = record {
  roots : HasRootsBelow l.plan l.k (items_of l.of_sectors.items);
}
