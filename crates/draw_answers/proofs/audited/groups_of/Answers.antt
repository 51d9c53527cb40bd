use Rattle.draw_answers.proofs.Points.{as_many}
use Rattle.draw_answers.proofs.audited.groups_of.Goals as goal

pub returns-clause-points : goal.returns-clause-points
returns-clause-points c = let e = c.in_ok-groups.ensures in as_many c.args.plan.now e.groups.plan c.in_ok-groups.groups e.groups c.points.ensures.plan
