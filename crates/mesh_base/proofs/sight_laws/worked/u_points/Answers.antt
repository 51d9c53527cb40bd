use Rattle.sight_names.proofs.URows.{points_are}
use Rattle.mesh_base.proofs.sight_laws.worked.u_points.Goals as goal

pub returns : goal.returns
returns c = points_are
