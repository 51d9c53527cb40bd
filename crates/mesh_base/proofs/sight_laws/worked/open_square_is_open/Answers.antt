use Rattle.sight_names.proofs.FaceRows.{is_open}
use Rattle.mesh_base.proofs.sight_laws.worked.open_square_is_open.Goals as goal

pub returns : goal.returns
returns c = is_open
