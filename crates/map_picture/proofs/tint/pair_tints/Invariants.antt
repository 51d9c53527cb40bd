use Rattle.std.proofs.Common.{◌≡◌, take, map}
use Rattle.map_picture.specs.Picture.{pair_tint}
use Rattle.map_picture.proofs.tint.pair_tints.Given as goal

abbrev pub invariant-loop-group : goal.invariant-loop-group
invariant-loop-group l = l.tints.items ≡ map (pair_tint l.a l.b) (take l.group-index l.groups)
