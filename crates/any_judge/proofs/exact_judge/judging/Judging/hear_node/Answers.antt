use Rattle.std.proofs.lemmas.Result.{IfOk-weaker}
use Rattle.any_judge.specs.ExactJudge.Heard.{with_node_of}
use Rattle.any_judge.specs.ExactJudge.Judging.{KeepsExactHeard}
use Rattle.any_judge.specs.ExactJudge.Stage.{IsStage}
use Rattle.any_judge.proofs.exact_judge.judging.Judging.hear_node.Goals as goal

pub returns : goal.returns
returns c = λ p t groups h closed k.
    let s = c.args.self.now in
    let after = with_node_of c.args.source c.args.node h in
    IfOk-weaker c.hear_node.result (λ _. IsStage p groups after c.hear_node.new.self) (λ _. KeepsExactHeard p t groups after (record s { stage = c.hear_node.new.self }))
    (λ x stage. record { plan = k.plan; table = k.table; groups_are = k.groups_are; triangles = k.triangles; rays = k.rays; stage = stage }) (c.hear_node.ensures p groups h closed k.stage)
