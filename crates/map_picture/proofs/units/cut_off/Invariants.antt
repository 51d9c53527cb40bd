use Rattle.std.proofs.Common.{◌≡◌}
use Rattle.map_picture.specs.Bytes.{cut_off}
use Rattle.map_picture.proofs.units.cut_off.Given as goal

abbrev pub invariant-loop-left : goal.invariant-loop-left
invariant-loop-left l = cut_off l.left l.count ≡ cut_off l.places l.n

abbrev pub decreases-loop-left : goal.decreases-loop-left
decreases-loop-left l = l.left
