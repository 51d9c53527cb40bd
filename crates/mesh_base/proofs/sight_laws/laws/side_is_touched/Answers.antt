use Rattle.mesh_base.proofs.SightLaws.SightLaws.{side_touched}
use Rattle.mesh_base.proofs.sight_laws.laws.side_is_touched.Goals as goal

pub returns : goal.returns
returns c = side_touched
