use Rattle.sight_names.proofs.OneGreedy.{one_greedy}
use Rattle.mesh_base.proofs.sight_laws.laws.one_greedy_list.Goals as goal

pub returns : goal.returns
returns c = one_greedy
