use Rattle.run_laws.proofs.Done.{drawn_pair_is_done}
use Rattle.run_laws.proofs.laws.drawn_pair_is_done.Goals as goal

pub returns : goal.returns
returns c = drawn_pair_is_done
