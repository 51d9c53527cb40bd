use Rattle.std.proofs.Common.{◌≡◌, ◌*◌, ◌≤◌, ◌++◌, drop}
use Rattle.map_maker.specs.Lumps.{linedefs_from}
use Rattle.map_maker.proofs.lumps.linedefs.Given as goal

abbrev pub invariant-loop-line : goal.invariant-loop-line
invariant-loop-line l = record {
  written : l.out.items ++ linedefs_from l.points.keys l.side (drop l.line-index l.lines) ≡ linedefs_from l.points.keys 0 l.lines;
  few : l.side ≤ 2 * l.line-index;
}
