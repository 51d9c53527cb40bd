use Rattle.std.proofs.Common.{take}
use Rattle.sight_names.specs.Map.{map_of}
use Rattle.fault_marks.specs.Marks.{AreClashesAt}
use Rattle.fault_marks.proofs.marks.clashes_at.Given as goal

abbrev pub invariant-loop-pair : goal.invariant-loop-pair
invariant-loop-pair l = AreClashesAt (map_of l.plan) (take l.pair-index l.pairs) l.faults.items
