use Rattle.std.proofs.Common.{◌≡◌}
use Rattle.map_picture.specs.Bytes.{shortest}
use Rattle.map_picture.proofs.units.shortest.Given as goal

abbrev pub invariant-loop-left : goal.invariant-loop-left
invariant-loop-left l = shortest l.left l.count ≡ shortest l.places l.n

abbrev pub decreases-loop-left : goal.decreases-loop-left
decreases-loop-left l = l.left
