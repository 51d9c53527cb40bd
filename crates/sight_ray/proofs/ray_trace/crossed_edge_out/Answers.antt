use Rattle.sight_ray.proofs.RayTrace.WalkLemmas.{crossed_edge_there}
use Rattle.sight_ray.proofs.ray_trace.crossed_edge_out.Goals as goal
use Rattle.std.proofs.Common.{true, false}

pub returns-then-side-clause-portal : goal.returns-then-side-clause-portal
returns-then-side-clause-portal c = crossed_edge_there c.args.plan.now c.line_of.ensures.plan c.args.side c.in_ok-line.line true c.if-side.true c.in_ok-line.ensures.entry

pub returns-else-side-clause-portal : goal.returns-else-side-clause-portal
returns-else-side-clause-portal c = crossed_edge_there c.args.plan.now c.line_of.ensures.plan c.args.side c.in_ok-line.line false c.if-side.false c.in_ok-line.ensures.entry
