use Rattle.draw_answers.proofs.Telling.{plans_shown}
use Rattle.draw_answers.proofs.laws.plans_show_lines.Goals as goal

pub returns : goal.returns
returns c = plans_shown
