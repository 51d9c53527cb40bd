use Rattle.run_laws.proofs.Done.{why_is_done}
use Rattle.run_laws.proofs.laws.why_is_done.Goals as goal

pub returns : goal.returns
returns c = why_is_done
