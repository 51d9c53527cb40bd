use Rattle.sight_names.proofs.PairRows.{first_ray}
use Rattle.mesh_base.proofs.sight_laws.worked.pair_has_a_sight_ray.Goals as goal

pub returns : goal.returns
returns c = first_ray
