use Rattle.any_judge.proofs.ExactJudge.Keeping.{triangle_late}
use Rattle.any_judge.proofs.exact_judge.judging.Judging.hear_triangle.Goals as goal

pub returns-in_default : goal.returns-in_default
returns-in_default c = λ p t groups h k. triangle_late p t groups h c.args.self.now c.in_default.not-Gathering k c.args.one
