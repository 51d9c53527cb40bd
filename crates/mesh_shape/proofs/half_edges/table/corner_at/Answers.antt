use Rattle.std.proofs.Common.{refl}
use Rattle.mesh_shape.proofs.HalfEdges.EachTriangle.{place_made}
use Rattle.mesh_shape.proofs.half_edges.table.corner_at.Goals as goal

pub returns : goal.returns
returns c = record {
  point = refl;
  at = place_made c.args.plan.now c.points.result.now c.point_at.result c.args.from c.points.ensures.plan c.points.ensures.list c.point_at.ensures;
  kind = c.kind_of.ensures;
  way = c.way.ensures;
}
