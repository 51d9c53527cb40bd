use Rattle.pair_budget.proofs.BoardCore.WorkerLogs.{changes}
use Rattle.pair_budget.specs.BoardCore.Machine.{with_mark}
use Rattle.pair_budget.proofs.board_core.worker_log.mark_in.Goals as goal

pub returns : goal.returns
returns c = changes c.mark.result (with_mark c.args.pair) c.args.logs.now c.args.worker c.mark.new.self c.index-logs-worker.result c.requires c.mark.ensures
