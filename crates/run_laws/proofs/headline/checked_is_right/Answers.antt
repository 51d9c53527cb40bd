use Rattle.run_laws.proofs.RightTables.{checked_is_right}
use Rattle.run_laws.proofs.headline.checked_is_right.Goals as goal

pub returns : goal.returns
returns c = checked_is_right
