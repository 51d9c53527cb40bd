use Rattle.sight_names.proofs.FaceRows.{is_mixed}
use Rattle.mesh_base.proofs.sight_laws.worked.island_names_disagree.Goals as goal

pub returns : goal.returns
returns c = is_mixed
