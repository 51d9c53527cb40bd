use Rattle.gate_floods.specs.GateMasks.Words.{HasBit}
use Rattle.gate_floods.proofs.GateMasks.Flooding.{IsSettling}
use Rattle.gate_floods.proofs.gate_masks.flood.Flood.settle.Given as goal

abbrev pub invariant-loop-next : goal.invariant-loop-next
invariant-loop-next l = IsSettling l.gates.gates.items (HasBit l.seen) l.gate l.initial.self.marks.items l.self.marks.items l.self.queue.items l.head l.sector l.next-items l.next-index
