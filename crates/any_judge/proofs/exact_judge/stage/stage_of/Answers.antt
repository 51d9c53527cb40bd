use Rattle.std.proofs.Common.{subst}
use Rattle.cert_checker.specs.Apart.{triangles_in, labels_in}
use Rattle.group_checker.specs.Grouping.{TellsGrouping}
use Rattle.any_judge.proofs.ExactJudge.Stages.{mesh_broken}
use Rattle.any_judge.proofs.exact_judge.stage.stage_of.Goals as goal

pub returns-in-Broken : goal.returns-in-Broken
returns-in-Broken c =
    let ls = c.args.labelled.now in
    mesh_broken c.args.plan.now c.args.groups.now ls c.args.rays.now c.points.ensures.plan c.in-Broken.fault (subst (TellsGrouping c.args.plan.now (triangles_in ls) (labels_in ls) c.args.groups.now) c.in-Broken.is c.in_ok-fault.ensures)
