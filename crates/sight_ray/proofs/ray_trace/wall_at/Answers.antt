use Rattle.std.proofs.Common.{◌≡◌, List, Option, length, ap, sym, ◌∙◌, true≢false, below_more, arith}
use Rattle.sight_names.specs.declared.plan.Line.{Line}
use Rattle.mesh_base.proofs.SightLaws.Plans.{line_below}
use Rattle.sight_ray.proofs.ray_trace.wall_at.Goals as goal

pub loop-i-preserved : goal.loop-i-preserved
loop-i-preserved c = below_more _ _ c.loop-i.invariant (λ w. true≢false (sym (c.is_wall.ensures.1 w) ∙ c.if-is_wall.false))

pub returns-then-is_wall : goal.returns-then-is_wall
returns-then-is_wall c = (c.is_wall.ensures.0 c.if-is_wall.true, c.loop-i.invariant)

pub returns : goal.returns
returns c =
    let e : length c.lines-i-end.result.now ≡ length c.args.plan.now.lines = ap (λ (xs : List (Option Line)). length xs) c.lines-i-end.ensures.list in
    λ n w. let b = line_below c.args.plan.now n w.line w.is in c.loop-i.invariant n (omega arith) w
