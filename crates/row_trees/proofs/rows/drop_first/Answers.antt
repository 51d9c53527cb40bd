use Rattle.row_trees.proofs.Thin.{thinner_set, and_left, bit_gone}
use Rattle.row_trees.proofs.rows.drop_first.Goals as goal

pub returns-then-place-rows-clause-thinner : goal.returns-then-place-rows-clause-thinner
returns-then-place-rows-clause-thinner c = thinner_set c.args.rows.now _ _ c.if-place-rows.true (and_left _ _)

pub returns-then-place-rows-clause-gone : goal.returns-then-place-rows-clause-gone
returns-then-place-rows-clause-gone c = bit_gone c.args.rows.now c.args.sector c.if-place-rows.true
