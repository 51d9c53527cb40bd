use Rattle.std.proofs.Common.{arith, ◌<◌, ◌≤◌, ◌+◌, sym, ◌∙◌, length}
use Rattle.std.proofs.lemmas.Grind.{common_steps}
use Rattle.mesh_shape.proofs.IndexLemmas.{search_step, search_found, search_none, search_outside, next_of}
use Rattle.mesh_shape.proofs.mesh.Mesh.triangle_at.Goals as goal

pub returns-then-u-self : goal.returns-then-u-self
returns-then-u-self c = rw (← c.self.view_is) (sym (search_outside _ _ (record { from = c.args.u; to = c.args.v }) c.self.invariant.triangles c.if-u-self.true))

pub returns-then-has_edge : goal.returns-then-has_edge
returns-then-has_edge c =
    let lt : c.loop-at.at < length c.self.inside.triangles.items = grind (arith, common_steps) in
    rw (← c.self.view_is) (sym (search_found _ (record { from = c.args.u; to = c.args.v }) _ c.index-t.result.now c.loop-at.invariant lt (sym c.index-t.ensures) (sym c.has_edge.ensures ∙ c.if-has_edge.true)))

pub loop-at-smaller : goal.loop-at-smaller
loop-at-smaller c =
    let lt : c.loop-at.at < length c.self.inside.triangles.items = grind (arith, common_steps) in
    let next = next_of c.self.inside.points c.self.inside.triangles.items c.self.inside.first.items c.self.inside.later.items c.loop-at.at c.args.u c.index-t.result.now c.index.result.now c.self.invariant lt (sym c.index-t.ensures) (sym c.index.ensures) (c.loop-at.invariant.here c.index-t.result.now lt) in
    let later : c.loop-at.at + 1 ≤ c.next_around-at.result = rw c.next_around-at.ensures next.from in
    omega arith

pub loop-at-preserved : goal.loop-at-preserved
loop-at-preserved c =
    let lt : c.loop-at.at < length c.self.inside.triangles.items = grind (arith, common_steps) in
    let next = next_of c.self.inside.points c.self.inside.triangles.items c.self.inside.first.items c.self.inside.later.items c.loop-at.at c.args.u c.index-t.result.now c.index.result.now c.self.invariant lt (sym c.index-t.ensures) (sym c.index.ensures) (c.loop-at.invariant.here c.index-t.result.now lt) in
    search_step _ (record { from = c.args.u; to = c.args.v }) c.loop-at.at _ c.index-t.result.now c.loop-at.invariant lt (sym c.index-t.ensures) (sym c.has_edge.ensures ∙ c.if-has_edge.false) (rw c.next_around-at.ensures next)

pub returns : goal.returns
returns c =
    let le : length c.self.inside.triangles.items ≤ c.loop-at.at = grind (arith, common_steps) in
    rw (← c.self.view_is) (sym (search_none _ (record { from = c.args.u; to = c.args.v }) _ c.loop-at.invariant le))
