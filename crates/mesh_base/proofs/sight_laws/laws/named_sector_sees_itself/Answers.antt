use Rattle.mesh_base.proofs.SightLaws.SightLaws.{sees_itself}
use Rattle.mesh_base.proofs.sight_laws.laws.named_sector_sees_itself.Goals as goal

pub returns : goal.returns
returns c = sees_itself
