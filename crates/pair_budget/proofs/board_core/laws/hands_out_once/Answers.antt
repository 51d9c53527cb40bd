use Rattle.pair_budget.proofs.BoardCore.Every.{hands_out}
use Rattle.pair_budget.proofs.board_core.laws.hands_out_once.Goals as goal

pub returns : goal.returns
returns c = hands_out
