use Rattle.std.proofs.Common.{◌*◌}
use Rattle.table_compare.proofs.Alone.{AreNone}
use Rattle.table_compare.proofs.first_bit.Given as goal

abbrev pub invariant-loop-i : goal.invariant-loop-i
invariant-loop-i l = AreNone l.one l.other (8 * l.i)
