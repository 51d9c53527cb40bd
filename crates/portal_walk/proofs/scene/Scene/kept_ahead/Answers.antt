use Rattle.std.proofs.Common.{◌≡◌, Some, slice_get, slice_index_or, sym, subst}
use Rattle.portal_walk.specs.Ahead.{ahead_by, kept_as}
use Rattle.portal_walk.specs.Scene.{SceneParts, IsNumber, behind}
use Rattle.portal_walk.proofs.Aheads.{ahead_read, ahead_within}
use Rattle.portal_walk.specs.declared.scene.Way.{Way as WayOut}
use Rattle.portal_walk.specs.declared.scene.Way.TheVariants as out
use Rattle.portal_walk.proofs.scene.Scene.kept_ahead.Goals as goal

pub bounds-self-inside-from : goal.bounds-self-inside-from
bounds-self-inside-from c =
    let i = c.self.inside in
    let s : SceneParts = record { plan = i.plan.now; mesh = i.mesh.now; labels = i.labels.now; source = i.source; edges = i.edges.now } in
    ahead_within s c.self.invariant.0 c.args.from out.Left i.lefts.now c.self.invariant.1 (subst (λ (p : SceneParts). IsNumber p.mesh.triangles c.args.from) (sym c.self.view_is) c.requires)

pub bounds-self-inside-from-in-Right : goal.bounds-self-inside-from-in-Right
bounds-self-inside-from-in-Right c =
    let i = c.self.inside in
    let s : SceneParts = record { plan = i.plan.now; mesh = i.mesh.now; labels = i.labels.now; source = i.source; edges = i.edges.now } in
    ahead_within s c.self.invariant.0 c.args.from out.Right i.rights.now c.self.invariant.2 (subst (λ (p : SceneParts). IsNumber p.mesh.triangles c.args.from) (sym c.self.view_is) c.requires)

pub returns-in-Left : goal.returns-in-Left
returns-in-Left c = λ x at.
    let i = c.self.inside in
    let d = c.index-self-from.result in
    let read = subst (λ (p : SceneParts). slice_get p.edges c.args.from ≡ Some x → slice_index_or i.lefts.now c.args.from d ≡ kept_as (ahead_by p.edges out.Left (behind x out.Left))) c.self.view_is (ahead_read i.edges.now out.Left i.lefts.now c.self.invariant.1 c.args.from d x) at in
    subst (λ (w : WayOut). slice_index_or i.lefts.now c.args.from d ≡ kept_as (ahead_by c.args.self.now.edges w (behind x w))) (sym c.in-Left.is) read

pub returns-in-Right : goal.returns-in-Right
returns-in-Right c = λ x at.
    let i = c.self.inside in
    let d = c.index-self-from-in-Right.result in
    let read = subst (λ (p : SceneParts). slice_get p.edges c.args.from ≡ Some x → slice_index_or i.rights.now c.args.from d ≡ kept_as (ahead_by p.edges out.Right (behind x out.Right))) c.self.view_is (ahead_read i.edges.now out.Right i.rights.now c.self.invariant.2 c.args.from d x) at in
    subst (λ (w : WayOut). slice_index_or i.rights.now c.args.from d ≡ kept_as (ahead_by c.args.self.now.edges w (behind x w))) (sym c.in-Right.is) read
