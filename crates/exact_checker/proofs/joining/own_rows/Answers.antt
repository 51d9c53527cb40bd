use Rattle.exact_checker.proofs.JoinedRows.{own_more}
use Rattle.exact_checker.proofs.joining.own_rows.Goals as goal

pub loop-group-preserved : goal.loop-group-preserved
loop-group-preserved c = rw c.in_ok-push.ensures.items (own_more c.args.count c.loop-group.group c.loop-group.rows.items c.in_ok-row.row c.loop-group.invariant c.in_ok-row.ensures)
