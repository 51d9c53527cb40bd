use Rattle.pair_answer.proofs.Sectors.{answers_said}
use Rattle.pair_answer.proofs.laws.answers_are_of_builds.Goals as goal

pub returns : goal.returns
returns c = answers_said
