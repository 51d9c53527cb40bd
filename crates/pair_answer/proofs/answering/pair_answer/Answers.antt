use Rattle.std.proofs.Common.{◌∙◌, ℕ, List, Contains, length, ap, sym, subst}
use Rattle.std.specs.Prelude.{IfOk}
use Rattle.math_base.proofs.Bools.{not_both_values}
use Rattle.sight_names.specs.Map.{map_of}
use Rattle.pair_answer.specs.Answer.{IsAnswerFor}
use Rattle.pair_answer.specs.Between.{IsAnswerBetween}
use Rattle.pair_answer.specs.Numbers.{AreBelow}
use Rattle.pair_answer.specs.Places.{ArePlacesOf, ShareOne}
use Rattle.pair_answer.proofs.Answered.{answered, ends_of_groups, good_groups, own_mesh, places_below, touches}
use Rattle.pair_answer.proofs.Decision.{ok_so}
use Rattle.pair_answer.proofs.answering.pair_answer.Goals as goal

pub places_of-requires : goal.places_of-requires
places_of-requires c = c.count_of-count.ensures ∙ c.requires.groups.grouped.sectors ∙ ap (λ (xs : List (List ℕ)). length xs) (sym c.as_slice.ensures)

pub places_of-requires-2 : goal.places_of-requires-2
places_of-requires-2 c = c.count_of-count.ensures ∙ c.requires.groups.grouped.sectors ∙ ap (λ (xs : List (List ℕ)). length xs) (sym c.as_slice-2.ensures)

pub returns-then-share_one : goal.returns-then-share_one
returns-then-share_one c =
    let p = c.args.plan.now in
    let g = c.args.grouped.now in
    let of_a : ArePlacesOf g.groups c.args.pair.a c.in_ok-from.from.items = subst (λ (gs : List (List ℕ)). ArePlacesOf gs c.args.pair.a c.in_ok-from.from.items) c.as_slice.ensures c.in_ok-from.ensures in
    let of_b : ArePlacesOf g.groups c.args.pair.b c.in_ok-to.to.items = subst (λ (gs : List (List ℕ)). ArePlacesOf gs c.args.pair.b c.in_ok-to.to.items) c.as_slice-2.ensures c.in_ok-to.ensures in
    let share = subst (λ (xs : List ℕ). ShareOne xs c.in_ok-to.to.items) c.as_slice-3.ensures.value (subst (λ (ys : List ℕ). ShareOne c.as_slice-3.result.now ys) c.as_slice-4.ensures.value (c.share_one.ensures.0 c.if-share_one.true)) in
    record { answer = touches p c.lines.ensures.plan c.args.mesh.now g c.requires.groups c.args.ask c.args.pair c.in_default.ensures.0 c.in_default.ensures.1 c.in_ok-from.from.items c.in_ok-to.to.items of_a of_b share }

pub budget_for-budget-requires : goal.budget_for-budget-requires
budget_for-budget-requires c = own_mesh c.args.plan.now c.lines.ensures.plan c.args.mesh.now c.args.grouped.now c.requires.groups c.args.ask

pub walk_between-requires-clause-audited : goal.walk_between-requires-clause-audited
walk_between-requires-clause-audited c = ends_of_groups c.args.plan.now c.lines.ensures.plan c.args.mesh.now c.args.grouped.now c.requires.groups c.args.ask

pub walk_between-requires-clause-good : goal.walk_between-requires-clause-good
walk_between-requires-clause-good c = good_groups c.args.plan.now c.lines.ensures.plan c.args.mesh.now c.args.grouped.now c.requires.groups c.args.ask

pub walk_between-requires-clause-from : goal.walk_between-requires-clause-from
walk_between-requires-clause-from c =
    let p = c.args.plan.now in
    let g = c.args.grouped.now in
    let of_a : ArePlacesOf g.groups c.args.pair.a c.in_ok-from.from.items = subst (λ (gs : List (List ℕ)). ArePlacesOf gs c.args.pair.a c.in_ok-from.from.items) c.as_slice.ensures c.in_ok-from.ensures in
    let of_b : ArePlacesOf g.groups c.args.pair.b c.in_ok-to.to.items = subst (λ (gs : List (List ℕ)). ArePlacesOf gs c.args.pair.b c.in_ok-to.to.items) c.as_slice-2.ensures c.in_ok-to.ensures in
    subst (λ (xs : List ℕ). AreBelow g.plan.sectors xs) (sym c.as_slice-5.ensures.value) (places_below p c.lines.ensures.plan c.args.mesh.now g c.requires.groups c.args.ask c.args.pair.a c.in_ok-from.from.items of_a)

pub walk_between-requires-clause-to : goal.walk_between-requires-clause-to
walk_between-requires-clause-to c =
    let p = c.args.plan.now in
    let g = c.args.grouped.now in
    let of_a : ArePlacesOf g.groups c.args.pair.a c.in_ok-from.from.items = subst (λ (gs : List (List ℕ)). ArePlacesOf gs c.args.pair.a c.in_ok-from.from.items) c.as_slice.ensures c.in_ok-from.ensures in
    let of_b : ArePlacesOf g.groups c.args.pair.b c.in_ok-to.to.items = subst (λ (gs : List (List ℕ)). ArePlacesOf gs c.args.pair.b c.in_ok-to.to.items) c.as_slice-2.ensures c.in_ok-to.ensures in
    subst (λ (xs : List ℕ). AreBelow g.plan.sectors xs) (sym c.as_slice-6.ensures.value) (places_below p c.lines.ensures.plan c.args.mesh.now g c.requires.groups c.args.ask c.args.pair.b c.in_ok-to.to.items of_b)

pub walk_between-requires-clause-apart : goal.walk_between-requires-clause-apart
walk_between-requires-clause-apart c = λ f ha hb. not_both_values c.share_one.result
    (c.share_one.ensures.1 (f, subst (λ (xs : List ℕ). Contains xs f) (c.as_slice-5.ensures.value ∙ sym c.as_slice-3.ensures.value) ha, subst (λ (ys : List ℕ). Contains ys f) (c.as_slice-6.ensures.value ∙ sym c.as_slice-4.ensures.value) hb))
    c.if-share_one.false

pub returns : goal.returns
returns c =
    let p = c.args.plan.now in
    let g = c.args.grouped.now in
    let ts = c.args.mesh.now.triangles in
    let from = c.in_ok-from.from.items in
    let to = c.in_ok-to.to.items in
    let budget = c.budget_for-budget.result in
    let of_a : ArePlacesOf g.groups c.args.pair.a from = subst (λ (gs : List (List ℕ)). ArePlacesOf gs c.args.pair.a from) c.as_slice.ensures c.in_ok-from.ensures in
    let of_b : ArePlacesOf g.groups c.args.pair.b to = subst (λ (gs : List (List ℕ)). ArePlacesOf gs c.args.pair.b to) c.as_slice-2.ensures c.in_ok-to.ensures in
    let none : ¬ ShareOne from to = λ s. not_both_values c.share_one.result
    (c.share_one.ensures.1 (subst (λ (xs : List ℕ). ShareOne xs c.as_slice-4.result.now) (sym c.as_slice-3.ensures.value) (subst (λ (ys : List ℕ). ShareOne from ys) (sym c.as_slice-4.ensures.value) s))) c.if-share_one.false in
    let between = subst (λ (xs : List ℕ). IfOk c.walk_between.result (IsAnswerBetween (map_of g.plan) ts g.labels budget xs to)) c.as_slice-5.ensures.value
    (subst (λ (ys : List ℕ). IfOk c.walk_between.result (IsAnswerBetween (map_of g.plan) ts g.labels budget c.as_slice-5.result.now ys)) c.as_slice-6.ensures.value c.walk_between.ensures) in
    record {
      answer = ok_so c.walk_between.result (IsAnswerBetween (map_of g.plan) ts g.labels budget from to) (IsAnswerFor (map_of p) c.args.ask c.args.pair)
          (answered p c.lines.ensures.plan c.args.mesh.now g c.requires.groups c.args.ask c.args.pair c.in_default.ensures.0 c.in_default.ensures.1 from to of_a of_b none budget c.budget_for-budget.ensures) between;
    }
