use Rattle.sight_ray.proofs.RayTrace.Firsts.{traced_is_clear as lemma_traced_is_clear}
use Rattle.sight_ray.proofs.ray_trace.laws.traced_is_clear.Goals as goal

pub returns : goal.returns
returns c = lemma_traced_is_clear
