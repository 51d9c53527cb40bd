use Rattle.std.proofs.Common.{◌≡◌, ◌++◌, map, take}
use Rattle.doomsight_c.specs.Flaws.{loose_view}
use Rattle.doomsight_c.proofs.tell.tell_loose.Given as goal

abbrev pub invariant-loop-end : goal.invariant-loop-end
invariant-loop-end l = l.out.items ≡ l.fn.out.items ++ map (loose_view l.plan) (take l.end-index l.ends)
