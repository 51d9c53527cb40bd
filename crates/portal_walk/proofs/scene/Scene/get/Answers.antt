use Rattle.std.proofs.Common.{sym, ◌∙◌, subst}
use Rattle.portal_walk.specs.Scene.{SceneParts, IsNumber}
use Rattle.portal_walk.proofs.Portals.{numbered, copied_there}
use Rattle.portal_walk.proofs.scene.Scene.get.Goals as goal

pub unwrap-requires : goal.unwrap-requires
unwrap-requires c =
    let i = c.self.inside in
    let s : SceneParts = record { plan = i.plan.now; mesh = i.mesh.now; labels = i.labels.now; source = i.source; edges = i.edges.now } in
    let there = numbered s c.self.invariant.0 c.args.number (subst (λ (p : SceneParts). IsNumber p.mesh.triangles c.args.number) (sym c.self.view_is) c.requires) in
    copied_there c.get.result there.0 (c.get.ensures ∙ there.1)
