use Rattle.run_laws.proofs.PairLaws.{pairs_are_decided}
use Rattle.run_laws.proofs.pairs.pairs_are_decided.Goals as goal

pub returns : goal.returns
returns c = pairs_are_decided
