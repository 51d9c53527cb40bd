use Rattle.gate_floods.specs.RowJudge.Words.{HasMet}
use Rattle.gate_floods.proofs.row_judge.words.meet_words.Given as goal

abbrev pub invariant-loop-k : goal.invariant-loop-k
invariant-loop-k l = HasMet l.fn.rows l.mask l.at l.to l.k l.rows
