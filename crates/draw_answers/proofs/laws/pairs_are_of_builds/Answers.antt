use Rattle.draw_answers.proofs.Telling.{pairs_built}
use Rattle.draw_answers.proofs.laws.pairs_are_of_builds.Goals as goal

pub returns : goal.returns
returns c = pairs_built
