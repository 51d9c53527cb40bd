use Rattle.sight_ray.proofs.RayTrace.Firsts.{wall_comes_first as lemma_wall_comes_first}
use Rattle.sight_ray.proofs.ray_trace.laws.wall_comes_first.Goals as goal

pub returns : goal.returns
returns c = lemma_wall_comes_first
