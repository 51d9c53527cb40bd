use Rattle.std.proofs.Common.{◌≡◌, ◌++◌, replicate}
use Rattle.map_picture.proofs.sheet.push_zeros.Given as goal

abbrev pub invariant-loop-left : goal.invariant-loop-left
invariant-loop-left l = l.out.items ++ replicate l.left 48 ≡ l.fn.out.items ++ replicate l.count 48

abbrev pub decreases-loop-left : goal.decreases-loop-left
decreases-loop-left l = l.left
