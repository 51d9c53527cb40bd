use Rattle.sight_ray.proofs.RayTrace.Firsts.{point_comes_first as lemma_point_comes_first}
use Rattle.sight_ray.proofs.ray_trace.laws.point_comes_first.Goals as goal

pub returns : goal.returns
returns c = lemma_point_comes_first
