use Rattle.sound_reach.proofs.Adding.{AreDoorsBelow}
use Rattle.sound_reach.proofs.doors.doors_of.Given as goal

abbrev pub invariant-loop-i : goal.invariant-loop-i
invariant-loop-i l = AreDoorsBelow l.plan l.dampers l.i l.doors.items
