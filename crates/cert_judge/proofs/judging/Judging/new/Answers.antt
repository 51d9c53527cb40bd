use Rattle.std.proofs.Common.{refl}
use Rattle.cert_judge.proofs.judging.Judging.new.Goals as goal

pub returns : goal.returns
returns c = record { plan = refl; table = refl; kept = λ _. c.new.ensures c.args.plan.now }
