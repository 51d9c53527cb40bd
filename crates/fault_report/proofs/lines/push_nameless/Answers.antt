use Rattle.std.proofs.lemmas.Result.{IfOk-weaker}
use Rattle.row_spelling.proofs.Quoting.{then_text}
use Rattle.fault_report.proofs.lines.push_nameless.Goals as goal

pub returns : goal.returns
returns c = IfOk-weaker c.push_text.result _ _ (λ u h. then_text _ _ _ _ _ h c.in_ok-push_index.ensures) c.push_text.ensures
