use Rattle.sight_ray.proofs.RayTrace.Trails.{walk_goes_on as lemma_walk_goes_on}
use Rattle.sight_ray.proofs.ray_trace.laws.walk_goes_on.Goals as goal

pub returns : goal.returns
returns c = lemma_walk_goes_on
