use Rattle.mesh_base.proofs.SightLaws.SightLaws.{sight_sees}
use Rattle.mesh_base.proofs.sight_laws.laws.sight_ray_sees.Goals as goal

pub returns : goal.returns
returns c = sight_sees
