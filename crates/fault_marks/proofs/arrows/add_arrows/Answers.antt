use Rattle.std.proofs.Common.{sym, ◌∙◌}
use Rattle.std.proofs.lemmas.Result.{IfOk-weaker}
use Rattle.fault_marks.proofs.Around.{with_name, without_name}
use Rattle.fault_marks.proofs.arrows.add_arrows.Goals as goal

pub returns-in-Some : goal.returns-in-Some
returns-in-Some c = λ ss is. IfOk-weaker c.add_turn.result _ _ (λ u made. with_name c.args.plan.now c.args.mesh.now.triangles ss c.args.tear _ c.args.arrows.now.items _ (sym c.sector_at.ensures ∙ c.in-Some.is) is made) (c.add_turn.ensures ss is.torn.way is.torn.turn)

pub returns-in-None : goal.returns-in-None
returns-in-None c = λ ss is. without_name c.args.plan.now c.args.mesh.now.triangles ss c.args.tear c.args.arrows.now.items (sym c.sector_at.ensures ∙ c.in-None.is)
