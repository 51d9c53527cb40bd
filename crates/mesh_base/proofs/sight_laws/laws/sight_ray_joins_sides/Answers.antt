use Rattle.mesh_base.proofs.SightLaws.SightLaws.{sight_joins}
use Rattle.mesh_base.proofs.sight_laws.laws.sight_ray_joins_sides.Goals as goal

pub returns : goal.returns
returns c = sight_joins
