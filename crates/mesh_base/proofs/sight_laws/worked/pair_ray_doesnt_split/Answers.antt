use Rattle.sight_names.proofs.PairRows.{not_split}
use Rattle.mesh_base.proofs.sight_laws.worked.pair_ray_doesnt_split.Goals as goal

pub returns : goal.returns
returns c = not_split
