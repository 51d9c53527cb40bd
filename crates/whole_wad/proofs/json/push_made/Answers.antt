use Rattle.std.proofs.Common.{codes, string_bytes}
use Rattle.std.proofs.lemmas.Result.{IfOk-weaker}
use Rattle.row_spelling.proofs.Quoting.{then_text}
use Rattle.whole_wad.proofs.json.push_made.Goals as goal

pub returns-in_ok-push_text-in-Err : goal.returns-in_ok-push_text-in-Err
returns-in_ok-push_text-in-Err c =
    rw c.in-Err.is (IfOk-weaker c.push_cause.result _ _ (λ u h. then_text (string_bytes c.args.line.now) (codes ",\"refused\":") _ _ _ h c.in_ok-push_text-in-Err.ensures) c.push_cause.ensures)
