use Rattle.std.proofs.Common.{arith}
use Rattle.row_trees.proofs.Thin.{one_met, met_row}
use Rattle.row_trees.proofs.rows.meet_first.Goals as goal

pub returns-clause-present : goal.returns-clause-present
returns-clause-present c = met_row c.args.rows.now c.words.rows c.args.at c.words.place c.args.width c.words-test.false c.words.invariant

pub words-preserved : goal.words-preserved
words-preserved c = one_met c.args.rows.now c.words.rows c.args.at c.words.place (omega (arith, c.words.auto.rows, c.requires.room, c.words-test.true)) c.words.invariant
