use Rattle.std.proofs.Common.{◌≡◌, ◌++◌, drop}
use Rattle.fault_marks.specs.Marks.{lines_of_pairs}
use Rattle.fault_marks.proofs.marks.lines_of_pairs.Given as goal

abbrev pub invariant-loop-pair : goal.invariant-loop-pair
invariant-loop-pair l = l.lines.items ++ lines_of_pairs (drop l.pair-index l.pairs) ≡ lines_of_pairs l.pairs
