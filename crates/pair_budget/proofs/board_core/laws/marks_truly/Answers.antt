use Rattle.pair_budget.proofs.BoardCore.Every.{marks_are_true}
use Rattle.pair_budget.proofs.board_core.laws.marks_truly.Goals as goal

pub returns : goal.returns
returns c = marks_are_true
