use Rattle.std.proofs.Common.{sym, subst}
use Rattle.std.specs.Prelude.{IfOk}
use Rattle.any_judge.specs.ExactJudge.Heard.{ExactHeard, nothing_exact, heard_from}
use Rattle.any_judge.specs.ExactJudge.Judging.{KeepsExactHeard}
use Rattle.any_judge.proofs.ExactJudge.AllHeard.{heard_one_more}
use Rattle.any_judge.proofs.exact_judge.judging.Judging.hear.Goals as goal

pub returns : goal.returns
returns c = λ p t groups parts w. subst (λ (g : ExactHeard). IfOk c.hear_any.result (λ _. KeepsExactHeard p t groups g c.hear_any.new.self)) (sym (heard_one_more nothing_exact parts c.args.part)) (c.hear_any.ensures p t groups (heard_from nothing_exact parts) w)
