use Rattle.draw_answers.proofs.Closing.{blind_closed}
use Rattle.draw_answers.proofs.laws.blind_is_closed.Goals as goal

pub returns : goal.returns
returns c = blind_closed
