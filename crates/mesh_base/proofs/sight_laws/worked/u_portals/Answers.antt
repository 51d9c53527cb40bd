use Rattle.sight_names.proofs.URows.{root_of_source, portals_are, enters}
use Rattle.mesh_base.proofs.sight_laws.worked.u_portals.Goals as goal

pub returns : goal.returns
returns c = (root_of_source, portals_are, enters.0)
