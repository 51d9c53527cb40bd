use Rattle.std.proofs.Common.{◌≡◌, ◌++◌}
use Rattle.map_picture.specs.Bytes.{digits_text}
use Rattle.map_picture.proofs.units.push_digits.Given as goal

abbrev pub invariant-loop-left : goal.invariant-loop-left
invariant-loop-left l = l.out.items ++ digits_text l.left l.n ≡ l.fn.out.items ++ digits_text l.places l.n

abbrev pub decreases-loop-left : goal.decreases-loop-left
decreases-loop-left l = l.left
