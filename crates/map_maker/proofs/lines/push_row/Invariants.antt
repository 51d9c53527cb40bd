use Rattle.std.proofs.Common.{◌≡◌, ◌++◌}
use Rattle.map_maker.specs.Lines.{part_lines, row}
use Rattle.map_maker.proofs.lines.push_row.Given as goal

abbrev pub invariant-loop-i : goal.invariant-loop-i
invariant-loop-i l = l.lines.items ≡ l.fn.lines.items ++ row (part_lines l.part l.n) l.i l.j
