use Rattle.std.proofs.Common.{arith}
use Rattle.mesh_shape.proofs.HalfEdges.EachTriangle.{edges_step, edges_end}
use Rattle.mesh_shape.proofs.half_edges.table.HalfEdges.of.Goals as goal

pub loop-k-preserved : goal.loop-k-preserved
loop-k-preserved c = edges_step c.args.plan.now c.args.mesh.now.triangles c.args.labels.now c.in_ok-kinds.kinds.items c.loop-k.k c.triangles-t-items.result.now _ c.as_slice.result.now c.sector_of.result c.loop-k.edges.items c.push_triangle.new.edges.items
    c.as_slice.ensures.value c.sector_of.ensures c.triangles-t-items.ensures.list c.loop-k-test.true c.loop-k.invariant c.in_ok-push_triangle.ensures

pub returns : goal.returns
returns c = edges_end c.args.plan.now c.args.mesh.now.triangles c.args.labels.now c.in_ok-kinds.kinds.items c.args.mesh.now.points c.triangles-t-items.ensures.triangles c.in_ok-kinds.ensures c.loop-k.k c.triangles-t-items.result.now c.loop-k.edges.items c.triangles-t-items.ensures.list (omega arith) c.loop-k.invariant
