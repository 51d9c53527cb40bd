use Rattle.pair_budget.proofs.BoardCore.WorkerLogs.{change_set}
use Rattle.pair_budget.specs.BoardCore.Machine.{at_end}
use Rattle.pair_budget.proofs.board_core.worker_log.end_in.Goals as goal

pub returns : goal.returns
returns c = change_set at_end c.args.logs.now c.args.worker c.end.new.self c.index-logs-worker.result c.requires c.end.ensures
