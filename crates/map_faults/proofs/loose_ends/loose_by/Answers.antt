use Rattle.map_faults.proofs.Loose.{loose_more, loose_all}
use Rattle.map_faults.proofs.loose_ends.loose_by.Goals as goal

pub loop-point-preserved : goal.loop-point-preserved
loop-point-preserved c = loose_more c.args.plan.now c.loop-point.point c.args.ends.now _ c.loop-point.loose.items _ c.requires c.loop-point-test.true c.in_ok-add_if_loose.ensures c.loop-point.invariant

pub returns : goal.returns
returns c = loose_all c.args.plan.now c.points.ensures.plan c.loop-point.point c.args.ends.now c.loop-point.loose.items c.requires c.loop-point-test.false c.loop-point.invariant
