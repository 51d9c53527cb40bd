use Rattle.std.proofs.Common.{refl, sym, subst}
use Rattle.std.specs.Prelude.{IfOk}
use Rattle.certificates.specs.declared.exact_parts.part.Part.{Part}
use Rattle.any_judge.specs.ExactJudge.Heard.{closed_at, with_exact_part}
use Rattle.any_judge.specs.ExactJudge.Judging.{KeepsExactHeard}
use Rattle.any_judge.proofs.exact_judge.judging.Judging.hear_any.Goals as goal

pub returns-in_ok-close-in-Node : goal.returns-in_ok-close-in-Node
returns-in_ok-close-in-Node c = λ p t groups h k. subst (λ (part : Part). IfOk c.hear_node.result (λ _. KeepsExactHeard p t groups (with_exact_part h part) c.hear_node.new.self)) (sym c.in-Node.is) (c.hear_node.ensures p t groups (closed_at h) refl (c.in_ok-close-in-Node.ensures p t groups h k))
