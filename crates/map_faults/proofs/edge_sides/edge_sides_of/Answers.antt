use Rattle.std.proofs.Common.{◌≡◌, ◌≤◌, ◌∙◌, length, ap, arith}
use Rattle.map_faults.proofs.SidesOfEdges.{known_step, known_all, put_back}
use Rattle.map_faults.proofs.edge_sides.edge_sides_of.Goals as goal

pub loop-number-preserved : goal.loop-number-preserved
loop-number-preserved c = rw (put_back c.put_record.new.sides _ c.loop-number.sides.len (let h : length c.put_record.new.sides ≡ length c.as_mut_slice.result.now = c.put_record.auto.sides in h ∙ c.as_mut_slice.ensures.len))
    (known_step c.args.plan.now c.args.mesh.now.triangles c.args.mesh.now.points c.loop-number.number c.lines-entry-items.result.now _ c.loop-number.sides.items c.as_mut_slice.result.now c.put_record.new.sides c.triangles.ensures.triangles c.lines-entry-items.ensures.list c.loop-number-test.true c.loop-number.invariant c.as_mut_slice.ensures.value c.put_record.ensures)

pub returns : goal.returns
returns c = known_all c.args.plan.now c.args.mesh.now.triangles c.loop-number.number c.loop-number.sides.items c.lines-entry-items.ensures.plan (past (ap length c.lines-entry-items.ensures.list)) c.loop-number.invariant
  where
    past : length c.lines-entry-items.result.now ≡ length c.args.plan.now.lines → length c.args.plan.now.lines ≤ c.loop-number.number
    past e = omega arith
