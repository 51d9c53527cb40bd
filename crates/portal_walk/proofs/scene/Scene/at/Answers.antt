use Rattle.std.proofs.Common.{ap, ◌∙◌, subst}
use Rattle.mesh_shape.specs.HalfEdges.HalfEdges.{way_outside}
use Rattle.portal_walk.specs.Scene.{SceneParts, Finds}
use Rattle.portal_walk.proofs.Portals.{found_behind}
use Rattle.portal_walk.proofs.scene.Scene.at.Goals as goal

pub returns : goal.returns
returns c =
    let i = c.self.inside in
    let s : SceneParts = record { plan = i.plan.now; mesh = i.mesh.now; labels = i.labels.now; source = i.source; edges = i.edges.now } in
    subst (λ (p : SceneParts). Finds p (record { left = c.args.left; right = c.args.right }) c.outside.result) c.self.view_is
    (found_behind s c.self.invariant.0 (record { left = c.args.left; right = c.args.right }) c.outside.result (c.outside.ensures ∙ ap (way_outside s.edges s.source) c.entering.ensures))
