use Rattle.std.proofs.Common.{arith}
use Rattle.found_rays.proofs.FewLines.{moved_next, moved_end}
use Rattle.found_rays.proofs.lines.moved.Goals as goal

pub loop-one-preserved : goal.loop-one-preserved
loop-one-preserved c = moved_next c.args.rays.now c.loop-one.one-index _ c.loop-one.all.items _ _ c.loop-one-test.true c.loop-one.invariant c.in_ok-push.ensures.items

pub returns : goal.returns
returns c = moved_end c.args.rays.now c.loop-one.one-index c.loop-one.all.items (omega arith) c.loop-one.invariant
