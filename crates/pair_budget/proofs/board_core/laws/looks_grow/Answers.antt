use Rattle.pair_budget.proofs.BoardCore.Every.{looks_are_grown}
use Rattle.pair_budget.proofs.board_core.laws.looks_grow.Goals as goal

pub returns : goal.returns
returns c = looks_are_grown
