use Rattle.std.proofs.Common.{subst}
use Rattle.cert_judge.specs.Stage.{IsStage}
use Rattle.cert_judge.proofs.stage.Stage.hear_node.Goals as goal

pub returns : goal.returns
returns c = λ p groups h closed k.
    let on = subst (IsStage p groups h) c.in-Good.is k in
    (closed, c.in_ok-hear_node.ensures p groups h.triangles h.rays h.front h.tree on.1)
