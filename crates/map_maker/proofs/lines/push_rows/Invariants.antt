use Rattle.std.proofs.Common.{◌≡◌, ◌++◌}
use Rattle.map_maker.specs.Lines.{part_lines, rows}
use Rattle.map_maker.proofs.lines.push_rows.Given as goal

abbrev pub invariant-loop-j : goal.invariant-loop-j
invariant-loop-j l = l.lines.items ≡ l.fn.lines.items ++ rows (part_lines l.part l.n) l.width l.j
