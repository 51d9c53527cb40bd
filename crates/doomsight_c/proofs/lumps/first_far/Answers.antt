use Rattle.std.proofs.Common.{◌/◌, length, sym, ◌∙◌}
use Rattle.doomsight_c.proofs.FarVertices.{found_at, not_at}
use Rattle.doomsight_c.proofs.lumps.first_far.Goals as goal

pub returns-then-is_far_vertex : goal.returns-then-is_far_vertex
returns-then-is_far_vertex c =
    let vertexes = c.args.vertexes.now in
    sym (found_at vertexes c.loop-k.k (length vertexes / 8) c.loop-k-test.true (sym c.is_far_vertex.ensures ∙ c.if-is_far_vertex.true)) ∙ c.loop-k.invariant

pub loop-k-preserved : goal.loop-k-preserved
loop-k-preserved c =
    let vertexes = c.args.vertexes.now in
    sym (not_at vertexes c.loop-k.k (length vertexes / 8) c.loop-k-test.true (sym c.is_far_vertex.ensures ∙ c.if-is_far_vertex.false)) ∙ c.loop-k.invariant
