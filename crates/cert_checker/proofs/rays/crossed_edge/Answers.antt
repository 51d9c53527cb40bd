use Rattle.cert_checker.proofs.SightRays.{crossed_at}
use Rattle.cert_checker.proofs.rays.crossed_edge.Goals as goal

pub returns-then-parts : goal.returns-then-parts
returns-then-parts c = crossed_at c.args.plan.now c.args.ray.now c.args.side c.in_ok-line.line c.args.forward _ _ c.in_ok-line.ensures.entry c.portal_of-left.ensures.left c.portal_of-left.ensures.right (c.parts.ensures c.if-parts.true)
