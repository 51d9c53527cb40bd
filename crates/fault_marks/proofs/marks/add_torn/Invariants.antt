use Rattle.std.proofs.Common.{◌≡◌, ◌++◌, map, take}
use Rattle.fault_marks.specs.Marks.{torn_at}
use Rattle.fault_marks.proofs.marks.add_torn.Given as goal

abbrev pub invariant-loop-k : goal.invariant-loop-k
invariant-loop-k l = l.faults.items ≡ l.fn.faults.items ++ map (torn_at l.plan) (take l.k-index l.corners)
