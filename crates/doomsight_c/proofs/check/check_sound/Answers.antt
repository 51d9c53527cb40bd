use Rattle.std.proofs.Common.{ℕ, ap, subst}
use Rattle.sight_names.specs.Plan.{PlanParts}
use Rattle.doomsight_c.specs.Checked.{IsTableInBytes}
use Rattle.doomsight_c.proofs.Judging.{checks}
use Rattle.doomsight_c.proofs.check.check_sound.Goals as goal

pub returns-in-Ok : goal.returns-in-Ok
returns-in-Ok c =
    let p = c.args.plan.now in
    let spelled = subst (λ (n : ℕ). IsTableInBytes n c.args.reject.now c.in_ok-table.table) (ap (λ (q : PlanParts). q.sectors) c.plan.view_is) c.in_ok-table.ensures in
    checks p c.requires.meet c.args.reject.now c.args.cert.now c.in_ok-table.table spelled c.in-Ok.judged c.in-Ok.ensures c.totals_of.result c.totals_of.ensures
