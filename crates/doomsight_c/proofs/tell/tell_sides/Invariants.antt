use Rattle.std.proofs.Common.{◌≡◌, ◌++◌, map, take}
use Rattle.doomsight_c.specs.Flaws.{side_view}
use Rattle.doomsight_c.proofs.tell.tell_sides.Given as goal

abbrev pub invariant-loop-side : goal.invariant-loop-side
invariant-loop-side l = l.out.items ≡ l.fn.out.items ++ map (side_view l.plan) (take l.side-index l.sides)
