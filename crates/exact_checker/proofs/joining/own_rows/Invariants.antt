use Rattle.exact_checker.specs.Rows.{AreOwnRows}
use Rattle.exact_checker.proofs.joining.own_rows.Given as goal

abbrev pub invariant-loop-group : goal.invariant-loop-group
invariant-loop-group l = AreOwnRows l.count l.group l.rows.items
