use Rattle.std.proofs.Common.{take}
use Rattle.doomsight_c.specs.Audited.{TellsClashes}
use Rattle.doomsight_c.proofs.tell.tell_clashes.Given as goal

abbrev pub invariant-loop-i : goal.invariant-loop-i
invariant-loop-i l = TellsClashes l.plan (take l.i l.pairs) l.fn.out.items l.out.items
