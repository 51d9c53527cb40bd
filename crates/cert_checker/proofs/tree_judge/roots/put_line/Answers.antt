use Rattle.std.proofs.Common.{◌≡◌, ◌++◌, [], Option, Some, None, refl, sym, subst}
use Rattle.mesh_shape.specs.HalfEdges.Numbers.{edge}
use Rattle.cert_checker.specs.TreeJudge.Roots.{side_edges, half_edges_of_line, PutsBefore}
use Rattle.cert_checker.proofs.TreeJudge.Chains.{if_ok, before_as, before_both, before_none, line_apart, line_solid, line_within, differ_if, same_if}
use Rattle.cert_checker.proofs.tree_judge.roots.put_line.Goals as goal
use Rattle.cert_checker.proofs.tree_judge.roots.put_line.Goals.{then-line-via-then-line, then-line-via-else-line+then-eq}

pub returns : goal.returns
returns c =
    let ts = c.args.mesh.now.triangles in
    let xs = c.args.edges.now in
    let l = c.in-Some.line in
    if_ok c.put_side-2.result c.put_side-2.ensures (λ put. subst (λ (o : Option _). PutsBefore (half_edges_of_line ts xs o) c.args.roots.now.items c.args.first.now c.put_side-2.new.roots.items c.put_side-2.new.first) (sym c.in-Some.is)
    (before_as (λ s. side_edges ts xs l.right (edge l.a l.b) s ++ side_edges ts xs l.left (edge l.b l.a) s) (half_edges_of_line ts xs (Some l)) c.args.roots.now.items c.put_side-2.new.roots.items c.args.first.now c.put_side-2.new.first
    (λ s. line_apart ts xs l s c.if-line.false (differ_if l.left l.right c.if-eq.ensures))
    (before_both (side_edges ts xs l.left (edge l.b l.a)) (side_edges ts xs l.right (edge l.a l.b)) c.args.roots.now.items c.put_side.new.roots.items c.put_side-2.new.roots.items c.args.first.now c.put_side.new.first c.put_side-2.new.first c.in_ok-put_side.ensures put)))

pub returns-in_default : goal.returns-in_default
returns-in_default c = subst (λ (o : Option _). PutsBefore (half_edges_of_line c.args.mesh.now.triangles c.args.edges.now o) c.args.roots.now.items c.args.first.now c.args.roots.now.items c.args.first.now) (sym c.in_default.is)
    (before_none (half_edges_of_line c.args.mesh.now.triangles c.args.edges.now None) c.args.roots.now.items c.args.first.now (λ s. refl))

pub returns-then-line : goal.returns-then-line
returns-then-line c =
    let ts = c.args.mesh.now.triangles in
    let xs = c.args.edges.now in
    let l = c.in-Some.line in
    subst (λ (o : Option _). PutsBefore (half_edges_of_line ts xs o) c.args.roots.now.items c.args.first.now c.args.roots.now.items c.args.first.now) (sym c.in-Some.is)
    (before_none (half_edges_of_line ts xs (Some l)) c.args.roots.now.items c.args.first.now
    (λ s. elim c.then-line.branch as (λ _. half_edges_of_line ts xs (Some l) s ≡ []) [ then-line-via-then-line w ↦ line_solid ts xs l s w.if-line.true | then-line-via-else-line+then-eq w ↦ line_within ts xs l s (same_if l.left l.right w.if-eq.ensures) ]))
