use Rattle.std.proofs.Common.{◌≡◌, ◌++◌, drop}
use Rattle.map_lumps.specs.Records.{placed_ends}
use Rattle.map_lumps.proofs.points.line_ends.Given as goal

abbrev pub invariant-loop-line : goal.invariant-loop-line
invariant-loop-line l = l.ends.items ++ placed_ends (drop l.line-index l.lines) ≡ placed_ends l.lines
