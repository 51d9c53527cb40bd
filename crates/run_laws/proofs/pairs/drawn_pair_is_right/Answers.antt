use Rattle.run_laws.proofs.PairLaws.{drawn_pair_is_right}
use Rattle.run_laws.proofs.pairs.drawn_pair_is_right.Goals as goal

pub returns : goal.returns
returns c = drawn_pair_is_right
