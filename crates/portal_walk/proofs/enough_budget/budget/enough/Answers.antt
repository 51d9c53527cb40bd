use Rattle.std.proofs.Common.{◌≤◌, ◌^◌, ℕ, length, arith, sym, ap, ◌∙◌, subst, lit≤}
use Rattle.sight_names.specs.declared.limits.TheConstants.{MOST_TRIANGLES}
use Rattle.sight_names.specs.declared.names.Budget.TheVariants.{Of}
use Rattle.sight_names.specs.Map.{map_of}
use Rattle.sight_names.specs.Found.{IsListed, Spent}
use Rattle.sight_names.proofs.PlanNumbers.{count_of_plan}
use Rattle.sight_names.specs.Groups.{IsListedByGroups}
use Rattle.sight_lift.proofs.EnoughBase.SameLines.{groups_list_none}
use Rattle.sight_lift.proofs.EnoughBase.Counts.{own_lists_none, enough_spends_none, mesh_turns}
use Rattle.portal_walk.proofs.EnoughBudget.Passing.{is_product, at_most}
use Rattle.portal_walk.proofs.enough_budget.budget.enough.Goals as goal
use Rattle.sight_lift.proofs.EnoughBase.PlanBound.{product}

pub overflow_mul-product-3 : goal.overflow_mul-product-3
overflow_mul-product-3 c =
    let b = product c.count_passable.result (length c.points.result.now) (length c.triangles.result.now) c.count_passable.ensures.few (subst (λ xs. length xs ≤ 16383) (sym c.points.ensures.list) c.points.ensures.plan.few_points) (subst (λ xs. length xs ≤ MOST_TRIANGLES) (sym c.triangles.ensures.list) c.triangles.ensures.few) in
    omega (arith, b)

pub returns-clause-value : goal.returns-clause-value
returns-clause-value c = is_product _ _ _ _ _ _ _ c.max.ensures c.count_passable.ensures.count (ap length c.points.ensures.list ∙ sym (count_of_plan c.args.plan.now c.points.ensures.plan)) (ap length c.triangles.ensures.list)

pub returns-clause-fits : goal.returns-clause-fits
returns-clause-fits c =
    at_most _ _ (2 ^ 58) c.max.ensures
    (product c.count_passable.result (length c.points.result.now) (length c.triangles.result.now) c.count_passable.ensures.few (subst (λ xs. length xs ≤ 16383) (sym c.points.ensures.list) c.points.ensures.plan.few_points) (subst (λ xs. length xs ≤ MOST_TRIANGLES) (sym c.triangles.ensures.list) c.triangles.ensures.few))
    (lit≤ tt)

pub returns-clause-never_spent : goal.returns-clause-never_spent
returns-clause-never_spent c = λ ls a h.
    let m = map_of c.args.plan.now in
    let ts = c.args.mesh.now.triangles in
    enough_spends_none m ts ls c.requires.mesh.triangles (mesh_turns m ts c.requires.mesh) a (subst (λ (n : ℕ). Spent m ts ls a (Of n)) (returns-clause-value c) h)

pub returns-clause-never_listed : goal.returns-clause-never_listed
returns-clause-never_listed c = λ a b h.
    let m = map_of c.args.plan.now in
    let ts = c.args.mesh.now.triangles in
    own_lists_none m ts c.requires.mesh a b (subst (λ (n : ℕ). IsListed m (Of n) a b) (returns-clause-value c) h)

pub returns-clause-never_in_groups : goal.returns-clause-never_in_groups
returns-clause-never_in_groups c = λ a b h.
    let m = map_of c.args.plan.now in
    let ts = c.args.mesh.now.triangles in
    groups_list_none m ts c.requires.mesh a b (subst (λ (n : ℕ). IsListedByGroups m (Of n) a b) (returns-clause-value c) h)
