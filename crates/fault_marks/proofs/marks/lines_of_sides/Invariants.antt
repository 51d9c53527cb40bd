use Rattle.std.proofs.Common.{◌≡◌, map, take}
use Rattle.fault_marks.proofs.marks.lines_of_sides.Given as goal

abbrev pub invariant-loop-side : goal.invariant-loop-side
invariant-loop-side l = l.lines.items ≡ map (λ s. s.line) (take l.side-index l.sides)
