use Rattle.group_checker.specs.CheckWorkers.Joined.{SetsRow}
use Rattle.group_checker.proofs.check_workers.join.set_row.Given as goal

abbrev pub invariant-loop-sector : goal.invariant-loop-sector
invariant-loop-sector l = SetsRow l.source l.sector l.more l.fn.table l.table
