use Rattle.cert_judge.specs.OnGround.{plan_under}
use Rattle.cert_judge.proofs.on_ground.OnGround.begin_tree.Goals as goal

pub returns : goal.returns
returns c = λ p groups ls rays front tree w. record { over = w.over; right = w.right; on = c.begin_tree.ensures (plan_under p c.args.self.now) ls rays front tree w.on }
