use Rattle.pair_budget.proofs.BoardCore.Every.{looks_are_true}
use Rattle.pair_budget.proofs.board_core.laws.looks_truly.Goals as goal

pub returns : goal.returns
returns c = looks_are_true
