use Rattle.sight_workers.specs.Board.{task_for}
use Rattle.sight_workers.proofs.Orders.{sorted_results, sorted_walked, sorted_settled}
use Rattle.sight_workers.proofs.alone.walk_alone.Goals as goal

pub returns-clause-results : goal.returns-clause-results
returns-clause-results g c =
    let t = task_for c.args.job 1 in let e = c.in_ok-results.ensures in
    rw c.of.ensures (sorted_results c.args.job.components.now t c.in_ok-pool.pool.items c.in_ok-results.results.items c.in_ok-pool.ensures.whole e.0 e.1)

pub returns-clause-walked : goal.returns-clause-walked
returns-clause-walked g c =
    let t = task_for c.args.job 1 in let e = c.in_ok-results.ensures in
    rw c.of.ensures (sorted_walked c.args.job.components.now t c.in_ok-pool.pool.items c.in_ok-results.results.items c.in_ok-pool.ensures.whole e.0 e.1)

pub returns-clause-settled : goal.returns-clause-settled
returns-clause-settled g c =
    let t = task_for c.args.job 1 in let e = c.in_ok-results.ensures in
    rw c.of.ensures (sorted_settled c.args.job.components.now t c.in_ok-pool.pool.items c.in_ok-results.results.items c.in_ok-pool.ensures.whole e.0 e.1)
