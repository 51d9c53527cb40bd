use Rattle.any_judge.proofs.ExactJudge.Keeping.{ray_late}
use Rattle.any_judge.proofs.exact_judge.judging.Judging.hear_ray.Goals as goal

pub returns-in_default : goal.returns-in_default
returns-in_default c = λ p t groups h k. ray_late p t groups h c.args.self.now c.in_default.not-Gathering k c.args.one
