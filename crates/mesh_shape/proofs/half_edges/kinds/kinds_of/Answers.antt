use Rattle.std.proofs.Common.{◌≡◌, ◌≤◌, ◌∙◌, length, ap, arith}
use Rattle.mesh_shape.proofs.HalfEdges.EachLine.{kinds_step, kinds_all, put_back}
use Rattle.mesh_shape.proofs.half_edges.kinds.kinds_of.Goals as goal

pub loop-number-preserved : goal.loop-number-preserved
loop-number-preserved c = rw (put_back c.put_record.new.kinds _ c.loop-number.kinds.len (let h : length c.put_record.new.kinds ≡ length c.as_mut_slice.result.now = c.put_record.auto.kinds in h ∙ c.as_mut_slice.ensures.len))
    (kinds_step c.args.plan.now c.args.mesh.now.triangles c.args.mesh.now.points c.loop-number.number c.lines-entry-items.result.now _ c.loop-number.kinds.items c.as_mut_slice.result.now c.put_record.new.kinds c.triangles.ensures.triangles c.lines-entry-items.ensures.list c.loop-number-test.true c.loop-number.invariant c.as_mut_slice.ensures.value c.put_record.ensures)

pub returns : goal.returns
returns c = kinds_all c.args.plan.now c.args.mesh.now.triangles c.loop-number.number c.loop-number.kinds.items c.lines-entry-items.ensures.plan (past (ap length c.lines-entry-items.ensures.list)) c.loop-number.invariant
  where
    past : length c.lines-entry-items.result.now ≡ length c.args.plan.now.lines → length c.args.plan.now.lines ≤ c.loop-number.number
    past e = omega arith
