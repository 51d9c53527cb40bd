use Rattle.doomsight_c.specs.Flaws.{loose_view}
use Rattle.doomsight_c.proofs.Auditing.{all_told, none_told}
use Rattle.doomsight_c.proofs.tell.tell_loose.Goals as goal

pub loop-end-init : goal.loop-end-init
loop-end-init c = none_told (loose_view c.args.plan.now) c.args.out.now.items c.args.ends.now

pub returns : goal.returns
returns c = all_told (loose_view c.args.plan.now) c.args.out.now.items c.args.ends.now c.loop-end.out.items c.loop-end.end-index c.loop-end-test.false c.loop-end.invariant
