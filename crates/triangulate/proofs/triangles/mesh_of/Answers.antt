use Rattle.std.proofs.Common.{ℕ, List, ◌≤◌, ◌*◌, length, sym, ap, subst, arith}
use Rattle.std.proofs.lemmas.Result.{IfOk-weaker}
use Rattle.std.proofs.lemmas.Grind.{common_steps}
use Rattle.sight_names.specs.declared.names.Pt.{Pt}
use Rattle.sight_names.specs.Map.{map_of}
use Rattle.sight_names.specs.Mesh.{IsTriangle, IsMeshOf, IsPlainMesh}
use Rattle.mesh_shape.specs.Shape.{MeshParts}
use Rattle.mesh_shape.specs.Fills.{FillsHull, FillsSides}
use Rattle.triangulate.proofs.PlanMesh.{greedy_edges, is_mesh_with, few_left, mesh_is_plain, mesh_fills_hull, mesh_fills_each_side}
use Rattle.triangulate.proofs.SortedMesh.{triangles_in_order}
use Rattle.triangulate.proofs.triangles.mesh_of.Goals as goal

pub incident_of-requires : goal.incident_of-requires
incident_of-requires c = greedy_edges c.args.plan.now (length c.points.result.now) c.points.ensures.plan (ap (λ (xs : List Pt). length xs) c.points.ensures.list) c.requires.audited c.args.segments.now c.requires.greedy

pub of-requires-clause-triangles : goal.of-requires-clause-triangles
of-requires-clause-triangles c = triangles_in_order (length c.points.result.now) c.in_ok-found.found.items c.in_order.result.items c.in_order.ensures (λ t x. subst (λ (n : ℕ). IsTriangle n t) c.in_ok-incident.ensures.points (c.in_ok-found.ensures.numbers t x))

pub of-requires-clause-few : goal.of-requires-clause-few
of-requires-clause-few c =
    let few : length c.in_order.result.items ≤ 2 * length c.args.plan.now.points = few_left c.args.plan.now c.points.ensures.plan c.requires.audited c.in_ok-incident.incident.segments c.args.segments.now c.in_ok-incident.ensures.segments c.requires.greedy c.in_ok-found.found.items c.in_order.result.items c.in_ok-found.ensures.left c.in_order.ensures in
    let points = c.points.ensures.plan.few_points in
    grind (arith, common_steps)

pub returns-clause-mesh : goal.returns-clause-mesh
returns-clause-mesh c = IfOk-weaker c.of.result _ _ (λ (mesh : MeshParts) e. subst (λ (x : MeshParts). IsMeshOf (map_of c.args.plan.now) x.triangles) (sym e) (is_mesh_with c.args.plan.now c.points.ensures.plan c.requires.audited c.in_ok-incident.incident.segments c.args.segments.now c.in_ok-incident.ensures.segments c.requires.greedy c.in_ok-found.found.items c.in_order.result.items c.in_ok-found.ensures.left c.in_order.ensures)) c.of.ensures

pub returns-clause-plain : goal.returns-clause-plain
returns-clause-plain c = IfOk-weaker c.of.result _ _ (λ (mesh : MeshParts) e. subst (λ (x : MeshParts). IsPlainMesh (map_of c.args.plan.now) x.triangles) (sym e) (mesh_is_plain c.args.plan.now c.points.ensures.plan c.requires.audited c.in_ok-incident.incident.segments c.args.segments.now c.in_ok-incident.ensures.segments c.requires.greedy c.in_ok-found.found.items c.in_order.result.items c.in_ok-found.ensures.left c.in_order.ensures)) c.of.ensures

pub returns-clause-fills : goal.returns-clause-fills
returns-clause-fills c = IfOk-weaker c.of.result _ _ (λ (mesh : MeshParts) e. subst (λ (x : MeshParts). FillsHull (map_of c.args.plan.now) c.args.segments.now x.triangles) (sym e) (mesh_fills_hull c.args.plan.now c.points.ensures.plan c.requires.audited c.in_ok-incident.incident.segments c.args.segments.now c.in_ok-incident.ensures.segments c.requires.greedy c.in_ok-found.found.items c.in_order.result.items c.in_ok-found.ensures.left c.in_order.ensures)) c.of.ensures

pub returns-clause-sides : goal.returns-clause-sides
returns-clause-sides c = IfOk-weaker c.of.result _ _ (λ (mesh : MeshParts) e. subst (λ (x : MeshParts). FillsSides (map_of c.args.plan.now) x.triangles) (sym e) (mesh_fills_each_side c.args.plan.now c.points.ensures.plan c.requires.audited c.in_ok-incident.incident.segments c.args.segments.now c.in_ok-incident.ensures.segments c.requires.greedy c.in_ok-found.found.items c.in_order.result.items c.in_ok-found.ensures.left c.in_order.ensures)) c.of.ensures

pub returns-clause-few : goal.returns-clause-few
returns-clause-few c = IfOk-weaker c.of.result _ _ (λ (mesh : MeshParts) e. subst (λ (x : MeshParts). length x.triangles ≤ 2 * length c.args.plan.now.points) (sym e) (few_left c.args.plan.now c.points.ensures.plan c.requires.audited c.in_ok-incident.incident.segments c.args.segments.now c.in_ok-incident.ensures.segments c.requires.greedy c.in_ok-found.found.items c.in_order.result.items c.in_ok-found.ensures.left c.in_order.ensures)) c.of.ensures
