use Rattle.std.proofs.Common.{◌++◌, codes, string_bytes}
use Rattle.std.proofs.lemmas.Result.{IfOk-weaker}
use Rattle.sight_names.specs.Texts.{side_text}
use Rattle.fault_report.specs.Lines.{point_text, spot}
use Rattle.fault_report.proofs.Telling.{two_then}
use Rattle.fault_report.proofs.lines.push_tear.Goals as goal

pub returns : goal.returns
returns c = IfOk-weaker c.push_text.result _ _ (λ u h. two_then (string_bytes c.args.text.now) (codes "torn corner at " ++ point_text (spot c.args.plan.now c.args.tear.now.point)) (codes " by ") (side_text c.args.tear.now.side) (codes "\n") _ _ _ h c.in_ok-push_side.ensures c.in_ok-push_spot.ensures) c.push_text.ensures
