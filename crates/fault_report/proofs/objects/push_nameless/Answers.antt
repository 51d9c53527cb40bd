use Rattle.std.proofs.Common.{◌++◌, codes, string_bytes}
use Rattle.std.specs.Fmt.{decimal}
use Rattle.std.proofs.lemmas.Result.{IfOk-weaker}
use Rattle.row_spelling.proofs.Quoting.{then_text}
use Rattle.fault_report.proofs.objects.push_nameless.Goals as goal

pub returns : goal.returns
returns c = IfOk-weaker c.push_text.result _ _ (λ u h. then_text (string_bytes c.args.text.now) (codes "{\"slip\":\"sector without a side\",\"sector\":" ++ decimal c.args.slip.now.sector) (codes "}\n") _ _ h c.in_ok-push_index.ensures) c.push_text.ensures
