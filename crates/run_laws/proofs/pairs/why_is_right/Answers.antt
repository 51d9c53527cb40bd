use Rattle.run_laws.proofs.PairLaws.{why_is_right}
use Rattle.run_laws.proofs.pairs.why_is_right.Goals as goal

pub returns : goal.returns
returns c = why_is_right
