use Rattle.std.proofs.Common.{ap, arith, length}
use Rattle.std.specs.Prelude.{IsTrue}
use Rattle.fault_report.specs.Slips.{IsSideless}
use Rattle.fault_report.proofs.Slipping.{adds_so, just_at, just_more}
use Rattle.fault_report.proofs.slips.sideless_of.Goals as goal

pub loop-i-preserved : goal.loop-i-preserved
loop-i-preserved c =
    let Q = IsSideless c.args.plan.now in
    let test = c.is_sideless.ensures in
    record {
      just = just_more Q c.loop-i.i _ _ (adds_so (IsTrue c.is_sideless.result) (Q c.loop-i.i) c.loop-i.i _ _ test.0 test.1 c.in_ok-add_sideless.ensures) c.loop-i.invariant.just;
      within = let e = ap length c.lines-i-end.ensures.list in let lt = c.loop-i-test.true in omega arith;
    }

pub returns : goal.returns
returns c = just_at (IsSideless c.args.plan.now) c.loop-i.i _ _ (let e = ap length c.lines-i-end.ensures.list in let f = c.loop-i-test.false in let w = c.loop-i.invariant.within in omega arith) c.loop-i.invariant.just
