use Rattle.sight_run.proofs.Judging.{by_map}
use Rattle.sight_run.proofs.judgement.verdict_of.Goals as goal

pub returns-in-Ok : goal.returns-in-Ok
returns-in-Ok c =
    let e = c.in-Ok.ensures in
    record { exact = by_map c.args.plan.now c.args.table.now c.args.cert.now c.in-Ok.verdict c.points-points.ensures.plan e.exact; accepted = e.accepted; sight = e.sight }
