use Rattle.sight_names.proofs.URows.{last_portals_are, enters, five_stuck}
use Rattle.mesh_base.proofs.sight_laws.worked.u_five_are_stuck.Goals as goal

pub returns : goal.returns
returns c = (last_portals_are, enters.1, five_stuck)
