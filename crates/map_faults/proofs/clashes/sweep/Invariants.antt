use Rattle.map_faults.proofs.Clashing.{IsSearched}
use Rattle.map_faults.proofs.clashes.sweep.Given as goal

abbrev pub invariant-loop-k : goal.invariant-loop-k
invariant-loop-k l = IsSearched l.plan l.one l.spans l.k l.found.items

abbrev pub decreases-loop-k : goal.decreases-loop-k
decreases-loop-k l = l.k
