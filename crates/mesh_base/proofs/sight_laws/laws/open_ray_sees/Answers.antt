use Rattle.mesh_base.proofs.SightLaws.SightLaws.{open_sees}
use Rattle.mesh_base.proofs.sight_laws.laws.open_ray_sees.Goals as goal

pub returns : goal.returns
returns c = open_sees
