use Rattle.std.proofs.Common.{◌≡◌, ℕ, [], get_or, length}
use Rattle.group_checker.proofs.Placing.{items_of}
use Rattle.group_checker.proofs.members.no_places.Given as goal

abbrev pub invariant-loop : goal.invariant-loop
invariant-loop l = record {
  len : length l.lists.items ≡ l.counter;
  empty : (a : ℕ) → get_or (items_of l.lists.items) a [] ≡ [];
}
