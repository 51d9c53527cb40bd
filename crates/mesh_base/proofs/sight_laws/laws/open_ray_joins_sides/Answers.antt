use Rattle.mesh_base.proofs.SightLaws.SightLaws.{open_joins}
use Rattle.mesh_base.proofs.sight_laws.laws.open_ray_joins_sides.Goals as goal

pub returns : goal.returns
returns c = open_joins
