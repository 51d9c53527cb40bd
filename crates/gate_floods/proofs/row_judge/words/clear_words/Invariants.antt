use Rattle.gate_floods.specs.RowJudge.Words.{IsCleared}
use Rattle.gate_floods.proofs.row_judge.words.clear_words.Given as goal

abbrev pub invariant-loop-k : goal.invariant-loop-k
invariant-loop-k l = IsCleared l.fn.rows l.from l.k l.rows
