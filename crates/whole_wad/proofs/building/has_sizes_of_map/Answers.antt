use Rattle.whole_wad.proofs.PlanSizes.{same_sizes}
use Rattle.whole_wad.proofs.building.has_sizes_of_map.Goals as goal

pub returns : goal.returns
returns c = same_sizes c.args.plan.now c.points-points.ensures.plan
