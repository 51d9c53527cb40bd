use Rattle.std.proofs.Common.{◌≡◌, ◌-◌, length}
use Rattle.gate_floods.specs.GateMasks.Flood.{IsFlood}
use Rattle.gate_floods.specs.GateMasks.Words.{HasBit}
use Rattle.gate_floods.proofs.gate_masks.flood.beyond.Given as goal

abbrev pub invariant-loop-head : goal.invariant-loop-head
invariant-loop-head l = record {
  len : length l.flood.marks.items ≡ l.gates.sectors;
  flood : IsFlood l.gates.gates.items (HasBit l.seen) l.gate l.flood.marks.items l.flood.queue.items l.head;
}

abbrev pub decreases-loop-head : goal.decreases-loop-head
decreases-loop-head l = length l.flood.marks.items - l.head
