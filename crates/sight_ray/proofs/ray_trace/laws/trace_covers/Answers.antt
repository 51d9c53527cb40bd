use Rattle.sight_ray.proofs.RayTrace.Covers.{trace_covers as lemma_trace_covers}
use Rattle.sight_ray.proofs.ray_trace.laws.trace_covers.Goals as goal

pub returns : goal.returns
returns c = lemma_trace_covers
