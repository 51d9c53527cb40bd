use Rattle.doomsight_c.specs.Flaws.{side_view}
use Rattle.doomsight_c.proofs.Auditing.{all_told, none_told}
use Rattle.doomsight_c.proofs.tell.tell_sides.Goals as goal

pub loop-side-init : goal.loop-side-init
loop-side-init c = none_told (side_view c.args.plan.now) c.args.out.now.items c.args.sides.now

pub returns : goal.returns
returns c = all_told (side_view c.args.plan.now) c.args.out.now.items c.args.sides.now c.loop-side.out.items c.loop-side.side-index c.loop-side-test.false c.loop-side.invariant
