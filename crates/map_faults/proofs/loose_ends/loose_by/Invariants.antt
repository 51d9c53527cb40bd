use Rattle.map_faults.proofs.Loose.{AreLooseBelow}
use Rattle.map_faults.proofs.loose_ends.loose_by.Given as goal

abbrev pub invariant-loop-point : goal.invariant-loop-point
invariant-loop-point l = AreLooseBelow l.plan l.point l.loose.items
