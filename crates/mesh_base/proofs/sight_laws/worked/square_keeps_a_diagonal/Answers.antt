use Rattle.sight_names.proofs.SquareGreedy.{square_greedy}
use Rattle.mesh_base.proofs.sight_laws.worked.square_keeps_a_diagonal.Goals as goal

pub returns : goal.returns
returns c = square_greedy
