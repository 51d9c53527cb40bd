use Rattle.std.proofs.Common.{ℕ, Option, sym, subst}
use Rattle.mesh_shape.specs.HalfEdges.Numbers.{edge}
use Rattle.cert_checker.specs.TreeJudge.Roots.{side_edges, PutsBefore}
use Rattle.cert_checker.proofs.TreeJudge.Chains.{if_ok, side_put, side_left_out, side_unnamed}
use Rattle.cert_checker.proofs.tree_judge.roots.put_side.Goals as goal

pub returns-in-Some-outside : goal.returns-in-Some-outside
returns-in-Some-outside c =
    let ts = c.args.mesh.now.triangles in
    let xs = c.args.edges.now in
    let e = edge c.args.left c.args.right in
    if_ok c.put.result c.put.ensures (λ put. subst (λ (o : Option ℕ). PutsBefore (side_edges ts xs o e) c.args.roots.now.items c.args.first.now c.put.new.roots.items c.put.new.first) (sym c.in-Some.is)
    (side_put ts xs c.in-Some.source c.in-Some-outside.number e c.entering-way.result c.args.roots.now.items c.put.new.roots.items c.args.first.now c.put.new.first c.entering-way.ensures c.in-Some-outside.ensures put))

pub returns-in-None : goal.returns-in-None
returns-in-None c =
    let ts = c.args.mesh.now.triangles in
    let xs = c.args.edges.now in
    let e = edge c.args.left c.args.right in
    subst (λ (o : Option ℕ). PutsBefore (side_edges ts xs o e) c.args.roots.now.items c.args.first.now c.args.roots.now.items c.args.first.now) (sym c.in-Some.is)
    (side_left_out ts xs c.in-Some.source e c.entering-way.result c.args.roots.now.items c.args.first.now c.entering-way.ensures c.in-None.ensures)

pub returns-in_default : goal.returns-in_default
returns-in_default c =
    let ts = c.args.mesh.now.triangles in
    let xs = c.args.edges.now in
    let e = edge c.args.left c.args.right in
    subst (λ (o : Option ℕ). PutsBefore (side_edges ts xs o e) c.args.roots.now.items c.args.first.now c.args.roots.now.items c.args.first.now) (sym c.in_default.is)
    (side_unnamed ts xs e c.args.roots.now.items c.args.first.now)
