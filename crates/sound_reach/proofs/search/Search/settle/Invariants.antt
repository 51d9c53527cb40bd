use Rattle.std.proofs.Common.{◌≡◌}
use Rattle.sound_reach.proofs.Searching.{IsSettling}
use Rattle.sound_reach.proofs.search.Search.settle.Given as goal

abbrev pub invariant-loop-door : goal.invariant-loop-door
invariant-loop-door l = record {
  to : l.self.to ≡ l.initial.self.to;
  settling : IsSettling l.doors.doors.items l.initial.self.to l.initial.self.distances.items l.self.distances.items l.self.queue.items l.head l.reached l.door-items l.door-index;
}
