use Rattle.sight_names.proofs.PairRows.{wrong_way}
use Rattle.mesh_base.proofs.sight_laws.worked.pair_ray_goes_the_wrong_way.Goals as goal

pub returns : goal.returns
returns c = wrong_way
