use Rattle.std.proofs.Common.{length}
use Rattle.pair_budget.proofs.board_core.engine.+bits_of.Given as goal

abbrev pub decreases-bits_of : goal.decreases-bits_of
decreases-bits_of l = length l.marked.now
