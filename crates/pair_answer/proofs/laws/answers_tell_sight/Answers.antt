use Rattle.pair_answer.proofs.Sectors.{answers_tell}
use Rattle.pair_answer.proofs.laws.answers_tell_sight.Goals as goal

pub returns : goal.returns
returns c = answers_tell
