use Rattle.std.proofs.Common.{◌≡◌, ◌-◌, ◌*◌, length}
use Rattle.sound_reach.specs.Search.{IsSearchBegun, IsSoundSearch}
use Rattle.sound_reach.proofs.search.distances_to.Given as goal

abbrev pub invariant-loop-head : goal.invariant-loop-head
invariant-loop-head l = record {
  to : l.search.to ≡ l.to;
  len : length l.search.distances.items ≡ l.doors.sectors * 2;
  begun : IsSearchBegun l.to l.search.distances.items;
  search : IsSoundSearch l.doors.doors.items l.to l.search.distances.items l.search.queue.items l.head;
}

abbrev pub decreases-loop-head : goal.decreases-loop-head
decreases-loop-head l = length l.search.distances.items - l.head
