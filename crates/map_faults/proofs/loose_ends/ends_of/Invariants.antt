use Rattle.map_faults.specs.LooseEnds.{AreEndsBelow}
use Rattle.map_faults.proofs.loose_ends.ends_of.Given as goal

abbrev pub invariant-loop-number : goal.invariant-loop-number
invariant-loop-number l = AreEndsBelow l.plan l.number l.ends.items
