use Rattle.std.proofs.Common.{◌≡◌, ◌++◌, drop}
use Rattle.map_maker.specs.Lumps.{sidedefs_of}
use Rattle.map_maker.proofs.lumps.sidedefs.Given as goal

abbrev pub invariant-loop-line : goal.invariant-loop-line
invariant-loop-line l = l.out.items ++ sidedefs_of (drop l.line-index l.lines) ≡ sidedefs_of l.lines
