use Rattle.run_laws.proofs.Done.{all_is_done}
use Rattle.run_laws.proofs.laws.all_is_done.Goals as goal

pub returns : goal.returns
returns c = all_is_done
