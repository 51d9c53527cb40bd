use Rattle.std.proofs.Common.{◌≡◌, Bor, Option, Some, None, option_copied, slice_get, sym, ap, subst, ◌∙◌}
use Rattle.mesh_shape.specs.declared.half_edges.table.HalfEdge.{HalfEdge}
use Rattle.portal_walk.specs.declared.ahead.Ahead.{Ahead}
use Rattle.portal_walk.specs.Ahead.{FindsAhead, ahead_by}
use Rattle.portal_walk.specs.Scene.{SceneParts, IsNumber, behind}
use Rattle.portal_walk.proofs.Aheads.{finds_edge, finds_none, finds_source}
use Rattle.portal_walk.proofs.scene.Scene.ahead.Goals as goal

pub returns-in_err-ahead : goal.returns-in_err-ahead
returns-in_err-ahead c =
    let i = c.self.inside in
    let s : SceneParts = record { plan = i.plan.now; mesh = i.mesh.now; labels = i.labels.now; source = i.source; edges = i.edges.now } in
    let number = subst (λ (p : SceneParts). IsNumber p.mesh.triangles c.args.from) (sym c.self.view_is) c.requires in
    let is = subst (λ (p : SceneParts). (x : HalfEdge) → slice_get p.edges c.args.from ≡ Some x → option_copied c.ahead_in.result ≡ ahead_by p.edges c.args.way (behind x c.args.way)) (sym c.self.view_is) c.ahead_in.ensures in
    subst (λ (p : SceneParts). FindsAhead p c.args.from c.args.way (option_copied c.from_residual.result)) c.self.view_is
    (subst (λ (o : Option (Bor Ahead)). FindsAhead s c.args.from c.args.way (option_copied o)) (sym c.from_residual.ensures) (finds_none s c.self.invariant.0 c.args.from number c.args.way (option_copied c.ahead_in.result) is (ap (λ (o : Option (Bor Ahead)). option_copied o) c.in_err-ahead.was)))

pub returns-then-is_in : goal.returns-then-is_in
returns-then-is_in c =
    let i = c.self.inside in
    let s : SceneParts = record { plan = i.plan.now; mesh = i.mesh.now; labels = i.labels.now; source = i.source; edges = i.edges.now } in
    let number = subst (λ (p : SceneParts). IsNumber p.mesh.triangles c.args.from) (sym c.self.view_is) c.requires in
    let is = subst (λ (p : SceneParts). (x : HalfEdge) → slice_get p.edges c.args.from ≡ Some x → option_copied c.ahead_in.result ≡ ahead_by p.edges c.args.way (behind x c.args.way)) (sym c.self.view_is) c.ahead_in.ensures in
    subst (λ (p : SceneParts). FindsAhead p c.args.from c.args.way None) c.self.view_is (finds_source s c.self.invariant.0 c.args.from number c.args.way (option_copied c.ahead_in.result) is c.in_ok-ahead.ahead.now (ap (λ (o : Option (Bor Ahead)). option_copied o) c.in_ok-ahead.was) (sym c.is_in.ensures ∙ c.if-is_in.true))

pub returns-else-is_in : goal.returns-else-is_in
returns-else-is_in c =
    let i = c.self.inside in
    let s : SceneParts = record { plan = i.plan.now; mesh = i.mesh.now; labels = i.labels.now; source = i.source; edges = i.edges.now } in
    let number = subst (λ (p : SceneParts). IsNumber p.mesh.triangles c.args.from) (sym c.self.view_is) c.requires in
    let is = subst (λ (p : SceneParts). (x : HalfEdge) → slice_get p.edges c.args.from ≡ Some x → option_copied c.ahead_in.result ≡ ahead_by p.edges c.args.way (behind x c.args.way)) (sym c.self.view_is) c.ahead_in.ensures in
    subst (λ (p : SceneParts). FindsAhead p c.args.from c.args.way (Some c.in_ok-ahead.ahead.now)) c.self.view_is (finds_edge s c.self.invariant.0 c.args.from number c.args.way (option_copied c.ahead_in.result) is c.in_ok-ahead.ahead.now (ap (λ (o : Option (Bor Ahead)). option_copied o) c.in_ok-ahead.was) (sym c.is_in.ensures ∙ c.if-is_in.false))
