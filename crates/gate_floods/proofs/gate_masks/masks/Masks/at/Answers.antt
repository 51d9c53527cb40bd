use Rattle.std.proofs.Common.{◌≡◌, ℕ, List, Option, None, Bor, sym, ◌∙◌, subst}
use Rattle.std.specs.Prelude.{MatchOption}
use Rattle.gate_floods.specs.declared.gate_masks.masks.Row.{Row}
use Rattle.gate_floods.specs.GateMasks.Masks.{HasWords}
use Rattle.gate_floods.proofs.GateMasks.Masking.{mask_entry, mask_no_entry}
use Rattle.gate_floods.proofs.gate_masks.masks.Masks.at.Goals as goal

pub returns-in-Some : goal.returns-in-Some
returns-in-Some c =
    let l = c.in-Some.ensures.lookup in
    let e = mask_entry c.deref.result.now c.args.self.now c.args.side c.place_of-place.result c.in-Some.entry.now (c.deref.ensures.value ∙ c.self.view_is) c.place_of-place.ensures l.3.0 l.1 in
    subst (λ (o : Option Row). MatchOption c.words_in.result (o ≡ None) (λ (ws : Bor (List ℕ)). HasWords o ws.now)) (sym e) c.words_in.ensures

pub returns-in-None : goal.returns-in-None
returns-in-None c = mask_no_entry c.deref.result.now c.args.self.now c.args.side c.place_of-place.result (c.deref.ensures.value ∙ c.self.view_is) c.place_of-place.ensures c.in-None.ensures.lookup.3
