use Rattle.std.proofs.Common.{sym, ◌∙◌, true≢false}
use Rattle.sight_ray.specs.RayTrace.CrossedEdges.{portal_crossed}
use Rattle.sight_ray.proofs.RayTrace.WalkLemmas.{wall_there, wall_joins, no_wall}
use Rattle.sight_ray.proofs.ray_trace.is_wall.Goals as goal

pub returns-then-line : goal.returns-then-line
returns-then-line c = (
  (λ h. wall_there c.args.plan.now c.line_of.ensures.plan c.args.number c.in-Some.line c.in-Some.ensures.entry c.args.crossed_edge c.if-line.true (c.joins.ensures.0 h)),
  (λ w. c.joins.ensures.1 (wall_joins c.args.plan.now c.line_of.ensures.plan c.args.number c.in-Some.line c.in-Some.ensures.entry c.args.crossed_edge w).1),
)

pub returns-else-line : goal.returns-else-line
returns-else-line c = (
  (λ h. absurd (true≢false (sym h ∙ c.if-line.false))),
  (λ w. (wall_joins c.args.plan.now c.line_of.ensures.plan c.args.number c.in-Some.line c.in-Some.ensures.entry c.args.crossed_edge w).0),
)

pub returns-in-None : goal.returns-in-None
returns-in-None c = ((λ h. absurd (true≢false (sym h))), (λ w. absurd (no_wall c.args.plan.now c.args.number c.in-None.ensures.entry (portal_crossed c.args.crossed_edge) w)))
