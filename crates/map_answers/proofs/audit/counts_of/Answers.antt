use Rattle.std.proofs.Common.{sym, ◌∙◌, ap, refl, length}
use Rattle.sight_names.proofs.PlanPoints.{seen_points}
use Rattle.map_answers.proofs.audit.counts_of.Goals as goal

pub returns-clause-points : goal.returns-clause-points
returns-clause-points c = ap length (c.points.ensures.list ∙ sym (seen_points c.args.plan.now c.args.plan.now refl c.points.ensures.plan))
