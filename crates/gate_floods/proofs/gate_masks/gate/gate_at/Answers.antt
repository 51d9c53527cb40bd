use Rattle.std.proofs.Common.{◌≡◌, Some, sym, ◌∙◌}
use Rattle.std.proofs.lemmas.Option.{none-some}
use Rattle.gate_floods.specs.GateMasks.Gates.{crossing_of}
use Rattle.gate_floods.proofs.GateMasks.AtSide.{entry_of, tells_gate, tells_no_crossing}
use Rattle.gate_floods.proofs.gate_masks.gate.gate_at.Goals as goal

pub returns-in_err-sectors : goal.returns-in_err-sectors
returns-in_err-sectors c = λ e. (
  (λ h. absurd (none-some e (sym c.from_residual-in_err-sectors.ensures ∙ h))),
  (λ h. absurd (tells_no_crossing c.args.plan.now c.lines.ensures.plan c.args.side c.in_ok-line.line (sym c.in_ok-line.ensures.entry) (sym c.crossing.ensures ∙ c.in_err-sectors.was) e h)),
)

pub returns : goal.returns
returns c =
    let entry : entry_of c.args.plan.now c.args.side.line ≡ Some c.in_ok-line.line = sym c.in_ok-line.ensures.entry in
    let crosses : crossing_of c.in_ok-line.line c.args.side.left ≡ Some c.in_ok-sectors.sectors = sym c.in_ok-sectors.ensures in
    tells_gate c.args.plan.now c.place.ensures.plan c.args.side c.in_ok-line.line c.in_ok-sectors.sectors c.ends-points.result c.place.result c.place-2.result entry crosses c.ends-points.ensures c.place.ensures.place c.place-2.ensures.place
