use Rattle.std.proofs.Common.{◌≡◌, drop, max}
use Rattle.map_picture.specs.Picture.{most_of}
use Rattle.map_picture.proofs.tint.most_of.Given as goal

abbrev pub invariant-loop-count : goal.invariant-loop-count
invariant-loop-count l = max l.most (most_of (drop l.count-index l.counts)) ≡ most_of l.counts
