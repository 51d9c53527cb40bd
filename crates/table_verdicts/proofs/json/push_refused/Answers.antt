use Rattle.std.proofs.Common.{codes, string_bytes}
use Rattle.std.proofs.lemmas.Result.{IfOk-weaker}
use Rattle.row_spelling.proofs.Quoting.{then_text}
use Rattle.table_verdicts.proofs.json.push_refused.Goals as goal

pub returns : goal.returns
returns c = IfOk-weaker c.push_cause.result _ _ (λ u h. then_text (string_bytes c.args.line.now) (codes ",\"refused\":") _ _ _ h c.in_ok-push_text.ensures) c.push_cause.ensures
