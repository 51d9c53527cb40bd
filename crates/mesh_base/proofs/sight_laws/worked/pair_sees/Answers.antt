use Rattle.sight_names.proofs.PairRows.{pair_sees as seen}
use Rattle.mesh_base.proofs.sight_laws.worked.pair_sees.Goals as goal

pub returns : goal.returns
returns c = seen
