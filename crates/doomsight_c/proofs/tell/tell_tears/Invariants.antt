use Rattle.std.proofs.Common.{◌≡◌, ◌++◌, map, take}
use Rattle.doomsight_c.specs.Flaws.{tear_view}
use Rattle.doomsight_c.proofs.tell.tell_tears.Given as goal

abbrev pub invariant-loop-tear : goal.invariant-loop-tear
invariant-loop-tear l = l.out.items ≡ l.fn.out.items ++ map (tear_view l.plan) (take l.tear-index l.tears)
