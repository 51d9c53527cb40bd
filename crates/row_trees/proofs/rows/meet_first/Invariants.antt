use Rattle.row_trees.proofs.Thin.{HasMet}
use Rattle.row_trees.proofs.rows.meet_first.Given as goal

abbrev pub invariant-words : goal.invariant-words
invariant-words l = HasMet l.fn.rows l.rows l.at l.place
