use Rattle.std.proofs.Common.{ℕ, ◌<◌, false, get_or, sym, subst}
use Rattle.std.proofs.lemmas.Bool.{true≢false}
use Rattle.std.proofs.lemmas.Option.{slice_get-get_or}
use Rattle.mesh_shape.specs.HalfEdges.Numbers.{edge}
use Rattle.pair_answer.proofs.EnteredTriangles.Leaving.{behind_within, none_leaves, some_leaves}
use Rattle.pair_answer.proofs.entered_triangles.stops.leaves_at.Goals as goal

pub returns-in_default : goal.returns-in_default
returns-in_default c = (λ t. absurd (true≢false (sym t)), λ l. absurd (none_leaves c.args.plan.now c.args.mesh.now.triangles c.args.labels.now c.args.edges.now c.requires.edges c.args.marks.now (edge c.args.left c.args.right) (sym c.in_default.ensures) l))

pub returns-in-Some-get : goal.returns-in-Some-get
returns-in-Some-get c =
    let x = c.in-Some-get.behind.now in
    let e = edge c.args.left c.args.right in
    let way = sym c.in-Some.ensures in
    let at = sym c.in-Some-get.ensures in
    let low = subst (λ (n : ℕ). x.triangle < n) (sym c.requires.each) (behind_within c.args.plan.now c.args.mesh.now.triangles c.args.labels.now c.args.edges.now c.requires.edges c.args.marks.now e c.in-Some.number x way at) in
    some_leaves c.args.plan.now c.args.mesh.now.triangles c.args.labels.now c.args.edges.now c.requires.edges c.args.marks.now e c.in-Some.number x way at (get_or c.args.marks.now x.triangle false) (slice_get-get_or c.args.marks.now x.triangle false low)
