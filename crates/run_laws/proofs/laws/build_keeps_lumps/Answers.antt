use Rattle.run_laws.proofs.Keeping.{build_keeps_lumps}
use Rattle.run_laws.proofs.laws.build_keeps_lumps.Goals as goal

pub returns : goal.returns
returns c = build_keeps_lumps
