use Rattle.reject_bits.proofs.Bits.{TurnedUpTo}
use Rattle.reject_bits.proofs.turn_bits.Given as goal

abbrev pub invariant-loop-i : goal.invariant-loop-i
invariant-loop-i l = TurnedUpTo l.i l.initial.bytes l.bytes
