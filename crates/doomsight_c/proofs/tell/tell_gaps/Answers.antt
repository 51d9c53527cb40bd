use Rattle.doomsight_c.specs.Flaws.{gap_view}
use Rattle.doomsight_c.proofs.Auditing.{all_told, none_told}
use Rattle.doomsight_c.proofs.tell.tell_gaps.Goals as goal

pub loop-gap-init : goal.loop-gap-init
loop-gap-init c = none_told (gap_view c.args.plan.now) c.args.out.now.items c.args.gaps.now

pub returns : goal.returns
returns c = all_told (gap_view c.args.plan.now) c.args.out.now.items c.args.gaps.now c.loop-gap.out.items c.loop-gap.gap-index c.loop-gap-test.false c.loop-gap.invariant
