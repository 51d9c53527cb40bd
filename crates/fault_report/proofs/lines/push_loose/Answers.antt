use Rattle.std.proofs.Common.{◌++◌, codes, string_bytes}
use Rattle.std.specs.Fmt.{decimal}
use Rattle.std.proofs.lemmas.Result.{IfOk-weaker}
use Rattle.fault_report.specs.Lines.{point_text, spot}
use Rattle.fault_report.proofs.Telling.{two_then}
use Rattle.fault_report.proofs.lines.push_loose.Goals as goal

pub returns : goal.returns
returns c = IfOk-weaker c.push_text.result _ _ (λ u h. two_then (string_bytes c.args.text.now) (codes "loose end at " ++ point_text (spot c.args.plan.now c.args.end.now.point)) (codes " of line ") (decimal c.args.end.now.line) (codes "\n") _ _ _ h c.in_ok-push_index.ensures c.in_ok-push_spot.ensures) c.push_text.ensures
