use Rattle.std.proofs.Common.{subst}
use Rattle.any_judge.specs.ExactJudge.Stage.{IsStage}
use Rattle.any_judge.proofs.ExactJudge.Stages.{node_walked}
use Rattle.any_judge.proofs.exact_judge.stage.Stage.hear_node.Goals as goal

pub returns : goal.returns
returns c = λ p groups h closed k.
    let on = subst (IsStage p groups h) c.in-Walking.is k in
    node_walked p groups h c.args.source c.args.node c.in-Walking.trees c.hear.new.self on c.hear.ensures.ground (c.in_ok-hear.ensures.heard h.trees on.1.heard)
