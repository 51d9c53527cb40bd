use Rattle.std.proofs.Common.{length}
use Rattle.exact_checker.specs.Rows.{AreRowsOf}
use Rattle.exact_checker.proofs.JoinedRows.{JoinedBelow}
use Rattle.exact_checker.proofs.joining.join_all.Given as goal

abbrev pub invariant-loop-one : goal.invariant-loop-one
invariant-loop-one l = AreRowsOf (length l.initial.rows) (JoinedBelow l.one-index l.rays (length l.initial.rows)) l.rows
