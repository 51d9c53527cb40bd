use Rattle.std.proofs.Common.{◌≡◌, ◌++◌, map, take}
use Rattle.fault_marks.specs.Marks.{loose_at}
use Rattle.fault_marks.proofs.marks.add_loose.Given as goal

abbrev pub invariant-loop-end : goal.invariant-loop-end
invariant-loop-end l = l.faults.items ≡ l.fn.faults.items ++ map (loose_at l.plan) (take l.end-index l.ends)
