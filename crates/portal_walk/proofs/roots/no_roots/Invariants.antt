use Rattle.std.proofs.Common.{◌≡◌, ℕ, [], length}
use Rattle.portal_walk.specs.Roots.{roots_in}
use Rattle.portal_walk.proofs.RootOrder.{items_of}
use Rattle.portal_walk.proofs.roots.no_roots.Given as goal

abbrev pub invariant-loop : goal.invariant-loop
invariant-loop l = record {
  len : length l.of_sectors.items ≡ l.counter;
  empty : (a : ℕ) → roots_in (items_of l.of_sectors.items) a ≡ [];
}
