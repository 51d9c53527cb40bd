use Rattle.std.proofs.Common.{◌≡◌, [], drop}
use Rattle.map_maker.specs.Lumps.{points_after}
use Rattle.map_maker.proofs.points.points.Given as goal

abbrev pub invariant-loop-line : goal.invariant-loop-line
invariant-loop-line l = points_after [] l.lines ≡ points_after l.points.keys (drop l.line-index l.lines)
