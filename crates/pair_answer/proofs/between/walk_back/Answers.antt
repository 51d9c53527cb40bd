use Rattle.std.proofs.Common.{ℕ, ◌<◌, ◌∙◌, List, Contains, length, ap, sym, subst, eqb}
use Rattle.std.proofs.lemmas.Bool.{eqb-true}
use Rattle.std.proofs.lemmas.List.{nil_from_length}
use Rattle.math_base.proofs.Bools.{not_both_values}
use Rattle.pair_answer.specs.Places.{AreJoinedByComponent}
use Rattle.sight_names.specs.Map.{map_of}
use Rattle.pair_answer.specs.declared.walks.AllSought.{AllSought}
use Rattle.pair_answer.specs.Numbers.{AreBelow}
use Rattle.pair_answer.specs.Walks.{AreMissed, AreSought}
use Rattle.pair_answer.proofs.Decision.{find_none, none_left, ray_back, some_left}
use Rattle.pair_answer.proofs.between.walk_back.Goals as goal

pub joined-requires-clause-groups : goal.joined-requires-clause-groups
joined-requires-clause-groups c = subst (λ (n : ℕ). AreBelow n c.args.to.now) (sym c.requires.each) c.requires.to

pub joined-requires-clause-others : goal.joined-requires-clause-others
joined-requires-clause-others c = subst (λ (n : ℕ). AreBelow n c.args.spent.now) (sym c.requires.each) c.requires.spent

pub seek_all-requires-clause-sources : goal.seek_all-requires-clause-sources
seek_all-requires-clause-sources c = λ x h. c.requires.to x ((c.in_ok-far.ensures x).0 (subst (λ (xs : List ℕ). Contains xs x) c.as_slice.ensures.value h)).0

pub returns-in-Ray : goal.returns-in-Ray
returns-in-Ray c =
    let g = c.args.ground.now in
    let r = subst (λ (xs : List ℕ). AreSought (map_of g.plan.now) g.mesh.now.triangles g.labels.now g.budget xs c.args.spent.now c.in_ok-ray.field-0) c.as_slice.ensures.value c.in_ok-ray.ensures in
    ray_back (map_of g.plan.now) g.mesh.now.triangles g.labels.now g.budget c.args.components.now c.args.spent.now c.args.to.now c.in_ok-far.far.items c.in_ok-far.ensures c.in-Ray.ray c.turn_round.result
    (subst (λ (s : AllSought). AreSought (map_of g.plan.now) g.mesh.now.triangles g.labels.now g.budget c.in_ok-far.far.items c.args.spent.now s) c.in-Ray.is r) (λ a b. c.turn_round.ensures.sight (map_of g.plan.now) a b)

pub joined-requires-in-Missed-clause-groups : goal.joined-requires-in-Missed-clause-groups
joined-requires-in-Missed-clause-groups c = subst (λ (n : ℕ). AreBelow n c.args.spent.now) (sym c.requires.each) c.requires.spent

pub joined-requires-in-Missed-clause-others : goal.joined-requires-in-Missed-clause-others
joined-requires-in-Missed-clause-others c = λ x h.
    let g = c.args.ground.now in
    let m : AreMissed (map_of g.plan.now) g.mesh.now.triangles g.labels.now g.budget c.as_slice.result.now c.args.spent.now c.in-Missed.spent_too.items = subst (λ (s : AllSought). AreSought (map_of g.plan.now) g.mesh.now.triangles g.labels.now g.budget c.as_slice.result.now c.args.spent.now s) c.in-Missed.is c.in_ok-ray.ensures in
    let far = ((m.ran_out x).0 (subst (λ (xs : List ℕ). Contains xs x) c.as_slice-in-Missed.ensures.value h)).0 in
    subst (λ (n : ℕ). x < n) (sym c.requires.each) (c.requires.to x ((c.in_ok-far.ensures x).0 (subst (λ (xs : List ℕ). Contains xs x) c.as_slice.ensures.value far)).0)

pub returns-then-is_empty : goal.returns-then-is_empty
returns-then-is_empty c =
    let g = c.args.ground.now in
    let r = subst (λ (xs : List ℕ). AreSought (map_of g.plan.now) g.mesh.now.triangles g.labels.now g.budget xs c.args.spent.now c.in_ok-ray.field-0) c.as_slice.ensures.value c.in_ok-ray.ensures in
    let m : AreMissed (map_of g.plan.now) g.mesh.now.triangles g.labels.now g.budget c.in_ok-far.far.items c.args.spent.now c.in-Missed.spent_too.items = subst (λ (s : AllSought). AreSought (map_of g.plan.now) g.mesh.now.triangles g.labels.now g.budget c.in_ok-far.far.items c.args.spent.now s) c.in-Missed.is r in
    let both = subst (λ (xs : List ℕ). AreJoinedByComponent c.args.components.now c.args.spent.now xs c.in_ok-left-in-Missed.left.items) c.as_slice-in-Missed.ensures.value c.in_ok-left-in-Missed.ensures in
    (find_none (map_of g.plan.now) g.mesh.now.triangles g.labels.now g.budget c.args.components.now c.args.spent.now c.args.to.now c.in_ok-far.far.items c.in_ok-far.ensures c.in-Missed.spent_too.items c.in_ok-left-in-Missed.left.items m both, none_left (map_of g.plan.now) g.mesh.now.triangles g.labels.now g.budget c.args.components.now c.args.spent.now c.args.to.now c.in_ok-far.far.items c.in_ok-far.ensures c.in-Missed.spent_too.items c.in_ok-left-in-Missed.left.items m both (nil_from_length _ (sym c.in_ok-left-in-Missed.left.ok.0 ∙ eqb-true _ _ (sym c.is_empty.ensures ∙ c.if-is_empty.true))))

pub returns : goal.returns
returns c =
    let g = c.args.ground.now in
    let r = subst (λ (xs : List ℕ). AreSought (map_of g.plan.now) g.mesh.now.triangles g.labels.now g.budget xs c.args.spent.now c.in_ok-ray.field-0) c.as_slice.ensures.value c.in_ok-ray.ensures in
    let m : AreMissed (map_of g.plan.now) g.mesh.now.triangles g.labels.now g.budget c.in_ok-far.far.items c.args.spent.now c.in-Missed.spent_too.items = subst (λ (s : AllSought). AreSought (map_of g.plan.now) g.mesh.now.triangles g.labels.now g.budget c.in_ok-far.far.items c.args.spent.now s) c.in-Missed.is r in
    let both = subst (λ (xs : List ℕ). AreJoinedByComponent c.args.components.now c.args.spent.now xs c.in_ok-left-in-Missed.left.items) c.as_slice-in-Missed.ensures.value c.in_ok-left-in-Missed.ensures in
    (find_none (map_of g.plan.now) g.mesh.now.triangles g.labels.now g.budget c.args.components.now c.args.spent.now c.args.to.now c.in_ok-far.far.items c.in_ok-far.ensures c.in-Missed.spent_too.items c.in_ok-left-in-Missed.left.items m both, some_left (map_of g.plan.now) g.mesh.now.triangles g.labels.now g.budget c.args.components.now c.args.spent.now c.args.to.now c.in_ok-far.far.items c.in_ok-far.ensures c.in-Missed.spent_too.items c.in_ok-left-in-Missed.left.items m both (λ e. not_both_values _ (c.is_empty.ensures ∙ ap (λ (n : ℕ). eqb n 0) (c.in_ok-left-in-Missed.left.ok.0 ∙ ap (λ (xs : List ℕ). length xs) e)) c.if-is_empty.false))
