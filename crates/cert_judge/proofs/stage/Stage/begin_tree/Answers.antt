use Rattle.std.proofs.Common.{subst}
use Rattle.cert_judge.specs.Stage.{IsStage}
use Rattle.cert_judge.proofs.stage.Stage.begin_tree.Goals as goal

pub returns-in-Good : goal.returns-in-Good
returns-in-Good c = λ p groups h closed k.
    let on = subst (IsStage p groups h) c.in-Good.is k in
    (closed, c.begin_tree.ensures p groups h.triangles h.rays h.front h.tree on.1)
