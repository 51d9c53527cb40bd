use Rattle.run_laws.proofs.AllWritten.{all_keeps_lumps}
use Rattle.run_laws.proofs.laws.all_keeps_lumps.Goals as goal

pub returns : goal.returns
returns c = all_keeps_lumps
