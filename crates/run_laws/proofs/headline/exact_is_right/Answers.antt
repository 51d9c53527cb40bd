use Rattle.run_laws.proofs.RightTables.{exact_is_right}
use Rattle.run_laws.proofs.headline.exact_is_right.Goals as goal

pub returns : goal.returns
returns c = exact_is_right
