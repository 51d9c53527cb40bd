use Rattle.draw_answers.proofs.Telling.{heat_told}
use Rattle.draw_answers.proofs.laws.heat_tells_tables.Goals as goal

pub returns : goal.returns
returns c = heat_told
