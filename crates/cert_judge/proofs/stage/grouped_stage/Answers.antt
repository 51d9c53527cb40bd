use Rattle.std.proofs.Common.{subst}
use Rattle.cert_checker.specs.Apart.{triangles_in, labels_in}
use Rattle.group_checker.specs.Grouping.{TellsGrouping}
use Rattle.cert_judge.proofs.Grounds.{grouped_fault, grouped_ground}
use Rattle.cert_judge.proofs.stage.grouped_stage.Goals as goal

pub returns-in-Broken : goal.returns-in-Broken
returns-in-Broken c =
    let ls = c.args.labelled.now in
    grouped_fault c.args.plan.now c.args.groups.now ls c.in-Broken.fault (subst (TellsGrouping c.args.plan.now (triangles_in ls) (labels_in ls) c.args.groups.now) c.in-Broken.is c.in_ok-fault.ensures)

pub returns-in_ok-on-in-Good : goal.returns-in_ok-on-in-Good
returns-in_ok-on-in-Good c =
    let ls = c.args.labelled.now in
    let told = subst (TellsGrouping c.args.plan.now (triangles_in ls) (labels_in ls) c.args.groups.now) c.in-Good.is c.in_ok-fault.ensures in
    record { over = told.2.grouped_is; right = grouped_ground c.args.plan.now c.args.groups.now ls c.in-Good.field-0.plan told.2; on = c.in_ok-on-in-Good.ensures ls told.0 told.1 }
