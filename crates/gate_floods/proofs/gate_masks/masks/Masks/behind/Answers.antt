use Rattle.std.proofs.Common.{◌≡◌, ℕ, List, Option, None, Bor, sym, ap, ◌∙◌, subst}
use Rattle.std.specs.Prelude.{MatchOption, option_and_then}
use Rattle.sight_names.specs.declared.names.Side.{Side}
use Rattle.gate_floods.specs.Gates.{other_side}
use Rattle.gate_floods.specs.declared.gate_masks.masks.Row.{Row}
use Rattle.gate_floods.specs.GateMasks.Behind.{mask_behind}
use Rattle.gate_floods.specs.GateMasks.Masks.{HasWords, mask_of_side}
use Rattle.gate_floods.proofs.gate_masks.masks.Masks.behind.Goals as goal

pub returns-in-Some : goal.returns-in-Some
returns-in-Some c =
    let e : mask_of_side c.args.self.now c.other_side.result ≡ mask_behind c.args.self.now c.args.edge.now =
    ap (mask_of_side c.args.self.now) c.other_side.ensures ∙ ap (option_and_then (λ (s : Side). mask_of_side c.args.self.now (other_side s))) (sym c.in-Some.is) in
    subst (λ (o : Option Row). MatchOption c.at.result (o ≡ None) (λ (ws : Bor (List ℕ)). HasWords o ws.now)) e c.at.ensures

pub returns-in-None : goal.returns-in-None
returns-in-None c = ap (option_and_then (λ (s : Side). mask_of_side c.args.self.now (other_side s))) c.in-None.is
