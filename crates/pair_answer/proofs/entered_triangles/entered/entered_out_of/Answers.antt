use Rattle.std.proofs.Common.{ℕ, ◌<◌, ◌⊎◌, ◌↔◌, List, Bool, Option, length, sym, ◌∙◌, subst}
use Rattle.std.specs.Prelude.{MatchOption}
use Rattle.sight_names.specs.Map.{map_of}
use Rattle.sight_names.specs.Plan.{PlanParts}
use Rattle.pair_answer.specs.EnteredTriangles.Entered.{IsOfSource}
use Rattle.pair_answer.specs.EnteredTriangles.Marks.{IsListOf, IsNumberMarked}
use Rattle.pair_answer.specs.EnteredTriangles.Stops.{AreStopsOf}
use Rattle.pair_answer.specs.EnteredTriangles.Walks.{AllEnded, IsOneSpent}
use Rattle.pair_answer.proofs.EnteredTriangles.Marking.{stored}
use Rattle.pair_answer.proofs.EnteredTriangles.Together.{together}
use Rattle.pair_answer.proofs.entered_triangles.entered.entered_out_of.Goals as goal

pub mark_sources-requires-clause-sources : goal.mark_sources-requires-clause-sources
mark_sources-requires-clause-sources c = λ k there. subst (λ (p : PlanParts). k < p.sectors) (sym c.plan.view_is) (c.requires.sources k there)

pub returns : goal.returns
returns c =
    let m = map_of c.args.plan.now in
    let ts = c.args.mesh.now.triangles in
    let ls = c.args.labels.now in
    let marks = c.in-Some.marks.items in
    let new = c.mark_sources.new.marks in
    let value = c.as_mut_slice.ensures.value in
    let ended = subst (λ (o : Option _). MatchOption o (IsOneSpent m ts ls c.args.budget c.args.sources.now) (λ given. AllEnded m ts ls c.args.budget c.args.sources.now given.items)) c.in-Some.is c.in_ok-marks.ensures in
    let listed = subst (λ (bs : List Bool). IsListOf bs c.in_ok-triangles.triangles.items) c.as_slice.ensures.value c.in_ok-triangles.ensures in
    let more = subst (λ (bs : List Bool). (k : ℕ) → k < length bs → IsNumberMarked new k ↔ (IsOfSource ls c.args.sources.now k ⊎ IsNumberMarked bs k)) value c.in_ok-mark_sources.ensures.marks in
    let back = stored new marks c.in-Some.marks.len (c.mark_sources.ensures.len ∙ c.as_mut_slice.ensures.len) in
    let stops = subst (λ (bs : List Bool). AreStopsOf m ts (IsNumberMarked bs) c.in_ok-stops.stops.items) (c.as_slice-2.ensures.value ∙ back) c.in_ok-stops.ensures.stops in
    record { entered = together m ts ls c.args.budget c.args.sources.now (record { triangles = c.in_ok-triangles.triangles; stops = c.in_ok-stops.stops }) marks new ended listed more c.in_ok-stops.ensures.ascend stops }
