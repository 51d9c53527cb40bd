use Rattle.std.proofs.Common.{◌≡◌, take, map}
use Rattle.map_picture.specs.Picture.{row_tint}
use Rattle.map_picture.proofs.tint.row_tints.Given as goal

abbrev pub invariant-loop-group : goal.invariant-loop-group
invariant-loop-group l = l.tints.items ≡ map (row_tint l.table l.a) (take l.group-index l.groups)
