use Rattle.std.proofs.Common.{◌≢◌, ◌∙◌, ap, length, sym, subst}
use Rattle.sight_names.specs.Map.{map_of}
use Rattle.sight_names.specs.Plan.{PlanParts}
use Rattle.doomsight_c.specs.declared.fault.DoomsightFault.{DoomsightFault}
use Rattle.doomsight_c.specs.Checked.{totals_view}
use Rattle.doomsight_c.proofs.Judging.{of_check, proved_map, unproved_map}
use Rattle.doomsight_c.proofs.check.check_counted.Goals as goal

pub returns-in-Ok-clause-yes : goal.returns-in-Ok-clause-yes
returns-in-Ok-clause-yes c =
    let counted = c.counts_of_totals.ensures ∙ ap (λ (p : PlanParts). totals_view c.in-Ok.totals p.sectors (length c.args.cert.now)) c.plan.view_is in
    proved_map (map_of c.args.plan.now) c.args.reject.now c.args.cert.now c.in-Ok.totals c.in-Ok.ensures c.counts_of_totals.result counted

pub returns-in-Err-clause-no : goal.returns-in-Err-clause-no
returns-in-Err-clause-no c =
    unproved_map c.faults_tell_statuses.ensures.tell c.args.reject.now c.args.cert.now (map_of c.args.plan.now) c.in-Err.status c.in-Err.ensures c.fault_of.result c.fault_of.ensures

pub returns-in-Err-clause-code : goal.returns-in-Err-clause-code
returns-in-Err-clause-code c =
    subst (λ (f : DoomsightFault). f.code ≢ 0) (sym c.fault_of.ensures)
    (c.faults_tell_statuses.ensures.codes c.in-Err.status (of_check (map_of c.args.plan.now) c.args.reject.now c.args.cert.now c.in-Err.status c.in-Err.ensures))
