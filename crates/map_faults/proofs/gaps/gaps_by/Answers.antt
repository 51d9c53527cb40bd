use Rattle.std.proofs.Common.{length, ap, arith}
use Rattle.mesh_shape.proofs.IndexLemmas.{any_triangle}
use Rattle.math_base.proofs.Lists.{item_there}
use Rattle.map_faults.proofs.Outside.{all_before, triangle_added, triangle_ordered}
use Rattle.map_faults.proofs.gaps.gaps_by.Goals as goal

pub loop-k-preserved : goal.loop-k-preserved
loop-k-preserved c =
    let at = item_there c.triangles-t-items.result.now c.args.mesh.now.triangles c.loop-k.k any_triangle c.triangles-t-items.ensures.list c.loop-k-test.true in (
      triangle_added c.args.mesh.now.triangles c.args.sides.now c.loop-k.k _ c.loop-k.gaps.items _ at c.in_ok-add_gaps.ensures c.loop-k.invariant.0,
      triangle_ordered c.args.mesh.now.triangles c.args.sides.now c.loop-k.k _ c.loop-k.gaps.items _ at c.in_ok-add_gaps.ensures c.loop-k.invariant.0 c.loop-k.invariant.1,
    )

pub returns : goal.returns
returns c = (all_before c.args.mesh.now.triangles c.args.sides.now c.loop-k.k c.loop-k.gaps.items (let e = ap length c.triangles-t-items.ensures.list in let f = c.loop-k-test.false in omega (arith, e, f)) c.loop-k.invariant.0, c.loop-k.invariant.1)
