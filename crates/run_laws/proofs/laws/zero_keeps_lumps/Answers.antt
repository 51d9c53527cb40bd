use Rattle.run_laws.proofs.Keeping.{zero_keeps_lumps}
use Rattle.run_laws.proofs.laws.zero_keeps_lumps.Goals as goal

pub returns : goal.returns
returns c = zero_keeps_lumps
