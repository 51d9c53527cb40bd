use Rattle.std.proofs.Common.{arith, below_more}
use Rattle.geom_exact.specs.ExtremeLines.Differences.{difference}
use Rattle.block_evidence.specs.Pairs.{HasAllAt}
use Rattle.block_evidence.proofs.hulls.whole_cone.Goals as goal

pub loop-i-preserved : goal.loop-i-preserved
loop-i-preserved c =
    let e = c.in_ok-wide.ensures in
    (e.0, below_more (λ i. HasAllAt c.args.ends.now i c.in_ok-wide.wide) c.loop-i.i (λ i h d g n j u m o. e.1 (difference d.at u.at) (c.loop-i.invariant.1 i h d g n j u m o)) e.2)

pub returns : goal.returns
returns c = (c.loop-i.invariant.0, λ i h. c.loop-i.invariant.1 i (omega (arith, h)))
