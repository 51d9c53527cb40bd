use Rattle.std.proofs.Common.{◌≡◌, ◌∙◌, ap, arith, length, subst, sym}
use Rattle.sight_names.specs.Map.{map_of}
use Rattle.fault_report.specs.Slips.{AreMarks}
use Rattle.fault_report.proofs.Slipping.{marks_at, marks_more, put_back}
use Rattle.fault_report.proofs.slips.marks_of.Goals as goal

pub loop-i-preserved : goal.loop-i-preserved
loop-i-preserved c =
    let m = map_of c.args.plan.now in
    rw (put_back c.mark_both.new.marks _ c.loop-i.marks.len (let h : length c.mark_both.new.marks ≡ length c.as_mut_slice.result.now = c.mark_both.auto.marks in h ∙ c.as_mut_slice.ensures.len)) (record {
      marks = marks_more m c.loop-i.i c.as_mut_slice.result.now c.mark_both.new.marks c.mark_both.ensures (subst (AreMarks m c.loop-i.i) (sym c.as_mut_slice.ensures.value) c.loop-i.invariant.marks);
      within = let e = ap length c.lines-i-end.ensures.list in let lt = c.loop-i-test.true in omega arith;
    })

pub returns : goal.returns
returns c = marks_at (map_of c.args.plan.now) c.loop-i.i _ _ (let e = ap length c.lines-i-end.ensures.list in let f = c.loop-i-test.false in let w = c.loop-i.invariant.within in omega arith) c.loop-i.invariant.marks
