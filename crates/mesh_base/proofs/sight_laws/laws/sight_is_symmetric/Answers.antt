use Rattle.sight_names.proofs.Laws.{sees_sym}
use Rattle.mesh_base.proofs.sight_laws.laws.sight_is_symmetric.Goals as goal

pub returns : goal.returns
returns c = sees_sym
