use Rattle.std.proofs.Common.{◌≡◌, length, below_more, ap, arith}
use Rattle.sight_ray.proofs.crossed_line.first_hit.Goals as goal

pub loop-number-preserved : goal.loop-number-preserved
loop-number-preserved c = below_more _ _ c.loop-number.invariant c.if-is_hit_at.ensures

pub returns : goal.returns
returns c i below =
    let e : length c.lines.result.now ≡ length c.args.plan.now.lines = ap length c.lines.ensures.list in
    c.loop-number.invariant i (omega arith)
