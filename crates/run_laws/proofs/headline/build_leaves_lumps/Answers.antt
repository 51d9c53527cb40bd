use Rattle.run_laws.proofs.RightTables.{build_leaves_lumps}
use Rattle.run_laws.proofs.headline.build_leaves_lumps.Goals as goal

pub returns : goal.returns
returns c = build_leaves_lumps
