use Rattle.found_rays.proofs.Judging.{one_found}
use Rattle.found_rays.proofs.judged.is_found.Goals as goal

pub returns-then-one : goal.returns-then-one
returns-then-one c = λ t. one_found c.args.over.now.plan c.args.one.now c.if-one.true (c.is_sight_ray.ensures t)
