use Rattle.run_laws.proofs.Done.{build_is_done}
use Rattle.run_laws.proofs.laws.build_is_done.Goals as goal

pub returns : goal.returns
returns c = build_is_done
