use Rattle.std.proofs.Common.{subst}
use Rattle.any_judge.specs.ExactJudge.Stage.{IsStage}
use Rattle.any_judge.proofs.ExactJudge.Stages.{closes}
use Rattle.any_judge.proofs.exact_judge.stage.Stage.close.Goals as goal

pub returns : goal.returns
returns c = λ h e f k. closes c.args.plan.now c.args.groups.now h c.args.labelled.now c.args.rays.now c.settle.new.self e f (subst (IsStage c.args.plan.now c.args.groups.now h) c.in-Gathering.is k) c.in_ok-settle.ensures
