use Rattle.map_faults.proofs.Clashing.{AreCounted}
use Rattle.map_faults.proofs.clashes.clashes_by.Given as goal

abbrev pub invariant-loop-i : goal.invariant-loop-i
invariant-loop-i l = AreCounted l.plan l.i l.first.items l.count
