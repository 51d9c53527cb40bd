use Rattle.std.proofs.Common.{subst}
use Rattle.std.proofs.lemmas.Result.{IfOk-weaker}
use Rattle.certificates.proofs.CertParts.Stretches.{takes_none, takes_weaker}
use Rattle.any_judge.specs.ExactJudge.Stage.{IsStage}
use Rattle.any_judge.proofs.ExactJudge.Nodes.{nodes_walked}
use Rattle.any_judge.proofs.exact_judge.stage.Stage.hear_nodes.Goals as goal

pub returns-in-Walking : goal.returns-in-Walking
returns-in-Walking c = IfOk-weaker c.hear_nodes.result _ _ (λ r taken. takes_weaker c.args.bytes.now c.args.count _ _ _ _ (λ ns heard p groups h k.
    let on = subst (IsStage p groups h) c.in-Walking.is k in
    nodes_walked p groups c.args.source ns h c.in-Walking.trees c.hear_nodes.new.self on c.hear_nodes.ensures.ground (heard h.trees on.1.heard)) taken) c.hear_nodes.ensures.heard

pub returns-in_default : goal.returns-in_default
returns-in_default c = takes_none c.args.bytes.now c.args.count _ (λ p groups h k. k)
