use Rattle.std.proofs.Common.{◌≡◌, take}
use Rattle.map_picture.specs.Picture.{heat_tints}
use Rattle.map_picture.proofs.tint.heat_tints.Given as goal

abbrev pub invariant-loop-count : goal.invariant-loop-count
invariant-loop-count l = l.tints.items ≡ heat_tints (take l.count-index l.counts) l.most
