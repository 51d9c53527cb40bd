use Rattle.gate_floods.proofs.GateMasks.Keeping.{AreKept}
use Rattle.gate_floods.proofs.gate_masks.masks.keep_all.Given as goal

abbrev pub invariant-loop-number : goal.invariant-loop-number
invariant-loop-number l = AreKept l.numbers l.other l.number-index l.words
