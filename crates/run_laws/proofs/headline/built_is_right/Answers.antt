use Rattle.run_laws.proofs.RightTables.{built_is_right}
use Rattle.run_laws.proofs.headline.built_is_right.Goals as goal

pub returns : goal.returns
returns c = built_is_right
