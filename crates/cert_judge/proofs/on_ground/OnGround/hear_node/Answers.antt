use Rattle.std.specs.Prelude.{option_map}
use Rattle.std.proofs.lemmas.Result.{IfOk-weaker}
use Rattle.cert_checker.specs.TreeJudge.Walked.{with_node}
use Rattle.cert_judge.specs.OnGround.{IsOnGround, plan_under}
use Rattle.cert_judge.specs.OnMesh.{IsOnMesh}
use Rattle.cert_judge.proofs.on_ground.OnGround.hear_node.Goals as goal

pub returns : goal.returns
returns c = λ p groups ls rays front tree w.
    let g = c.args.self.now in
    let more = option_map (with_node c.args.node) tree in
    IfOk-weaker c.hear_node.result (λ _. IsOnMesh (plan_under p g) ls rays front more c.hear_node.new.self) (λ _. IsOnGround p groups ls rays front more (record { grouped = g.grouped; on = c.hear_node.new.self }))
    (λ x on. record { over = w.over; right = w.right; on = on }) (c.hear_node.ensures (plan_under p g) ls rays front tree w.on)
