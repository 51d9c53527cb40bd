use Rattle.certificates.proofs.CertParts.Stretches.{takes_weaker}
use Rattle.cert_judge.specs.OnGround.{plan_under}
use Rattle.cert_judge.proofs.on_ground.OnGround.hear_nodes.Goals as goal

pub returns : goal.returns
returns c = takes_weaker c.args.bytes.now c.args.count _ _ _ _ (λ ns heard p groups ls rays front tree w. record { over = w.over; right = w.right; on = heard (plan_under p c.args.self.now) ls rays front tree w.on }) c.hear_nodes.ensures
