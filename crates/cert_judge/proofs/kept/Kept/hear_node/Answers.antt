use Rattle.std.proofs.lemmas.Result.{IfOk-weaker}
use Rattle.cert_judge.specs.Heard.{with_next}
use Rattle.cert_judge.specs.Judging.{KeepsListingHeard}
use Rattle.cert_judge.specs.Stage.{IsStage}
use Rattle.cert_judge.proofs.kept.Kept.hear_node.Goals as goal

pub returns : goal.returns
returns c = λ p groups h closed k.
    let s = c.args.self.now in
    IfOk-weaker c.hear_node.result (λ _. IsStage p groups (with_next c.args.node h) c.hear_node.new.self) (λ _. KeepsListingHeard p groups (with_next c.args.node h) (record { groups = s.groups; triangles = s.triangles; rays = s.rays; listed = s.listed; stage = c.hear_node.new.self }))
    (λ x stage. record { groups_are = k.groups_are; triangles = k.triangles; rays = k.rays; listed = k.listed; stage = stage }) (c.hear_node.ensures p groups h closed k.stage)
