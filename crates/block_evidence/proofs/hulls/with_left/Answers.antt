use Rattle.std.proofs.Common.{arith, below_more}
use Rattle.geom_exact.specs.ExtremeLines.Differences.{difference}
use Rattle.block_evidence.specs.Pairs.{HasAt}
use Rattle.block_evidence.proofs.hulls.with_left.Goals as goal

pub loop-j-preserved : goal.loop-j-preserved
loop-j-preserved c =
    let e = c.in_ok-wide.ensures in
    (e.0, λ a h. e.1 a (c.loop-j.invariant.1 a h), below_more (λ j. HasAt c.args.ends.now c.args.left j c.in_ok-wide.wide) c.loop-j.j (λ j h d g n. e.1 (difference c.args.left.at d.at) (c.loop-j.invariant.2 j h d g n)) e.2)

pub returns : goal.returns
returns c = (c.loop-j.invariant.0, c.loop-j.invariant.1, λ j h. c.loop-j.invariant.2 j (omega (arith, h)))
