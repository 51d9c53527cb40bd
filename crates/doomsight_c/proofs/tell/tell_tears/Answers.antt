use Rattle.doomsight_c.specs.Flaws.{tear_view}
use Rattle.doomsight_c.proofs.Auditing.{all_told, none_told}
use Rattle.doomsight_c.proofs.tell.tell_tears.Goals as goal

pub loop-tear-init : goal.loop-tear-init
loop-tear-init c = none_told (tear_view c.args.plan.now) c.args.out.now.items c.args.tears.now

pub returns : goal.returns
returns c = all_told (tear_view c.args.plan.now) c.args.out.now.items c.args.tears.now c.loop-tear.out.items c.loop-tear.tear-index c.loop-tear-test.false c.loop-tear.invariant
