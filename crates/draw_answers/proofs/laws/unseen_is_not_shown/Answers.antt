use Rattle.draw_answers.proofs.Closing.{unseen_not_shown}
use Rattle.draw_answers.proofs.laws.unseen_is_not_shown.Goals as goal

pub returns : goal.returns
returns c = unseen_not_shown
