use Rattle.whole_wad.proofs.OneOutcome.{outcomes_are_one}
use Rattle.whole_wad.proofs.laws.outcomes_are_one.Goals as goal

pub returns : goal.returns
returns c = outcomes_are_one
