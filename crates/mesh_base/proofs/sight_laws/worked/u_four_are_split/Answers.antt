use Rattle.sight_names.proofs.URows.{four_split}
use Rattle.mesh_base.proofs.sight_laws.worked.u_four_are_split.Goals as goal

pub returns : goal.returns
returns c = four_split
