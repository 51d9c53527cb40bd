use Rattle.std.proofs.Common.{subst}
use Rattle.cert_judge.specs.Stage.{IsStage}
use Rattle.cert_judge.proofs.stage.Stage.hear_ray.Goals as goal

pub returns-in-Good : goal.returns-in-Good
returns-in-Good c = λ groups h closed k.
    let on = subst (IsStage c.args.plan.now groups h) c.in-Good.is k in
    (closed, c.hear_ray.ensures groups h.triangles h.rays h.front h.tree on.1)
