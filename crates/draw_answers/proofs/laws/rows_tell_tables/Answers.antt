use Rattle.draw_answers.proofs.Telling.{rows_told}
use Rattle.draw_answers.proofs.laws.rows_tell_tables.Goals as goal

pub returns : goal.returns
returns c = rows_told
