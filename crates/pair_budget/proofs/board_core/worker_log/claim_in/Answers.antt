use Rattle.pair_budget.proofs.BoardCore.WorkerLogs.{changes}
use Rattle.pair_budget.specs.BoardCore.Machine.{with_claim}
use Rattle.pair_budget.proofs.board_core.worker_log.claim_in.Goals as goal

pub returns : goal.returns
returns c = changes c.claim.result (with_claim c.args.source) c.args.logs.now c.args.worker c.claim.new.self c.index-logs-worker.result c.requires c.claim.ensures
