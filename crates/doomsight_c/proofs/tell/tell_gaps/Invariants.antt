use Rattle.std.proofs.Common.{◌≡◌, ◌++◌, map, take}
use Rattle.doomsight_c.specs.Flaws.{gap_view}
use Rattle.doomsight_c.proofs.tell.tell_gaps.Given as goal

abbrev pub invariant-loop-gap : goal.invariant-loop-gap
invariant-loop-gap l = l.out.items ≡ l.fn.out.items ++ map (gap_view l.plan) (take l.gap-index l.gaps)
