use Rattle.std.proofs.Common.{ℕ, ◌+◌, List, length, Some, None, Option, sym, ap, ◌∙◌, subst, arith, Vec, Global}
use Rattle.sight_names.specs.declared.plan.Line.{Line}
use Rattle.std.proofs.lemmas.List.{with_items_is}
use Rattle.sight_names.specs.Plan.{PlanParts}
use Rattle.face_groups.specs.TriSectors.Classes.{AreSingles}
use Rattle.face_groups.specs.TriSectors.Forest.{IsForest, classes_in}
use Rattle.face_groups.proofs.TriSectors.Forests.{classes_many}
use Rattle.face_groups.specs.TriSectors.Components.{AreComponents}
use Rattle.sight_names.specs.Map.{map_of}
use Rattle.face_groups.proofs.TriSectors.ComponentLemmas.{ArePassed, forest_begun, forest_line_passed, forest_none_passed, forest_many, sector_below, components_of}
use Rattle.face_groups.proofs.tri_sectors.connected.components.Goals as goal
use Rattle.face_groups.proofs.tri_sectors.connected.components.Goals.{in-Some, in_default}
use Rattle.math_base.proofs.Lists.{item_there}

pub loop-line-init : goal.loop-line-init
loop-line-init c = forest_begun c.args.plan.now _ (subst (λ (p : PlanParts). AreSingles p.sectors c.in_ok-parents.parents.items) c.plan.view_is c.in_ok-parents.ensures.singles)

pub connect-requires-clause-forest : goal.connect-requires-clause-forest
connect-requires-clause-forest c = subst IsForest (sym c.deref_mut.ensures.value) c.loop-line.invariant.forest

pub connect-requires-clause-right : goal.connect-requires-clause-right
connect-requires-clause-right c = let there = item_there c.lines-line-items.result.now c.args.plan.now.lines c.loop-line.line-index None c.lines-line-items.ensures.list c.loop-line-test.true ∙ ap (λ (o : Option Line). Some o) c.in-Some.is in
    (sector_below c.args.plan.now c.lines-line-items.ensures.plan c.loop-line.line-index c.in-Some.line c.loop-line.parents.items _ there c.deref_mut.ensures.value (forest_many c.args.plan.now c.loop-line.line-index c.loop-line.parents.items c.loop-line.invariant)).0

pub connect-requires-clause-left : goal.connect-requires-clause-left
connect-requires-clause-left c = let there = item_there c.lines-line-items.result.now c.args.plan.now.lines c.loop-line.line-index None c.lines-line-items.ensures.list c.loop-line-test.true ∙ ap (λ (o : Option Line). Some o) c.in-Some.is in
    (sector_below c.args.plan.now c.lines-line-items.ensures.plan c.loop-line.line-index c.in-Some.line c.loop-line.parents.items _ there c.deref_mut.ensures.value (forest_many c.args.plan.now c.loop-line.line-index c.loop-line.parents.items c.loop-line.invariant)).1

pub loop-line-preserved : goal.loop-line-preserved
loop-line-preserved c =
    let item = item_there c.lines-line-items.result.now c.args.plan.now.lines c.loop-line.line-index None c.lines-line-items.ensures.list c.loop-line-test.true in
    elim c.match-line.branch [
      | in-Some w ↦ subst (λ (xs : List ℕ). ArePassed c.args.plan.now (c.loop-line.line-index + 1) xs) (sym (ap (λ (v : Vec ℕ Global). v.items) w.parents-is ∙ with_items_is c.loop-line.parents w.connect.new.parents (w.connect.ensures.len ∙ w.deref_mut.ensures.len)))
          (forest_line_passed c.args.plan.now c.lines-line-items.ensures.plan c.loop-line.line-index w.in-Some.line c.loop-line.parents.items w.deref_mut.result.now w.connect.new.parents (item ∙ ap (λ (o : Option Line). Some o) w.in-Some.is) w.deref_mut.ensures.value w.connect.ensures.forest w.connect.ensures.connected c.loop-line.invariant)
      | in_default w ↦ subst (λ (v : Vec ℕ Global). ArePassed c.args.plan.now (c.loop-line.line-index + 1) v.items) (sym w.parents-is)
          (forest_none_passed c.args.plan.now c.loop-line.line-index c.loop-line.parents.items (item ∙ ap (λ (o : Option Line). Some o) w.in_default.is) c.loop-line.invariant)
    ]

pub returns-clause-components : goal.returns-clause-components
returns-clause-components c =
    let named = c.name_all.ensures in
    let many = ap length named ∙ classes_many c.deref_mut-2.result.now in
    subst (AreComponents (map_of c.args.plan.now))
    (sym (with_items_is c.loop-line.parents c.name_all.new.parents (many ∙ c.deref_mut-2.ensures.len) ∙ named ∙ ap classes_in c.deref_mut-2.ensures.value))
    (components_of c.args.plan.now c.lines-line-items.ensures.plan c.loop-line.line-index _ (let e = ap length c.lines-line-items.ensures.list in let f = c.loop-line-test.false in omega (arith, e, f)) c.loop-line.invariant.passed)
