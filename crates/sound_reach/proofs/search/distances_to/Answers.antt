use Rattle.std.proofs.Common.{arith}
use Rattle.sound_reach.proofs.Searching.{distances_found}
use Rattle.sound_reach.proofs.search.distances_to.Goals as goal

pub loop-head-init : goal.loop-head-init
loop-head-init c = record {
  to = c.in_ok-search.ensures.to;
  len = c.in_ok-search.ensures.len;
  begun = c.in_ok-search.ensures.begun;
  search = c.in_ok-search.ensures.search c.args.doors.now.doors.items;
}

pub returns : goal.returns
returns c = let i = c.loop-head.invariant in distances_found c.args.doors.now.doors.items c.args.doors.now.sectors c.args.to c.loop-head.search.distances.items c.loop-head.search.queue.items c.loop-head.head i.len i.search i.begun (omega arith)
