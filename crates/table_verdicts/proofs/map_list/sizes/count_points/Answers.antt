use Rattle.std.proofs.Common.{sym, ◌∙◌, ap, refl, length}
use Rattle.sight_names.proofs.PlanPoints.{seen_points}
use Rattle.table_verdicts.proofs.map_list.sizes.count_points.Goals as goal

pub returns : goal.returns
returns c = ap length (c.points.ensures.list ∙ sym (seen_points c.args.plan.now c.args.plan.now refl c.points.ensures.plan))
