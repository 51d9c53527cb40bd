use Rattle.std.proofs.Common.{◌<◌, ℕ, List, Contains, sym, subst}
use Rattle.std.specs.Prelude.{IfOk}
use Rattle.std.proofs.lemmas.Option.{slice_get_within}
use Rattle.map_answers.specs.Groups.{seen}
use Rattle.pair_answer.specs.Places.{ArePlacesOf}
use Rattle.pair_answer.specs.EnteredTriangles.Answer.{IsEnteredWithin}
use Rattle.draw_answers.proofs.Pairs.{entered_from_places}
use Rattle.draw_answers.proofs.entering.entered_from.Goals as goal

pub entered_out_of-requires-clause-sources : goal.entered_out_of-requires-clause-sources
entered_out_of-requires-clause-sources c = λ f has.
    let g = c.args.groups.now.grouped in
    let of = subst (λ (gs : List (List ℕ)). ArePlacesOf gs c.args.sector c.in_ok-sources.sources.items) c.as_slice.ensures c.in_ok-sources.ensures in
    let h = (of f).0 (subst (λ (xs : List ℕ). Contains xs f) c.as_slice-2.ensures.value has) in
    subst (λ (n : ℕ). f < n) (sym c.requires.groups.over.is.sectors) (slice_get_within g.groups f h.0 h.1)

pub returns : goal.returns
returns c =
    let g = seen c.args.groups.now in
    let of = subst (λ (gs : List (List ℕ)). ArePlacesOf gs c.args.sector c.in_ok-sources.sources.items) c.as_slice.ensures c.in_ok-sources.ensures in
    entered_from_places g c.args.budget c.args.sector c.in_ok-sources.sources.items of c.entered_out_of.result
    (subst (λ (xs : List ℕ). IfOk c.entered_out_of.result (IsEnteredWithin g.grouped g.triangles g.labels c.args.budget xs)) c.as_slice-2.ensures.value c.entered_out_of.ensures.entered)
