use Rattle.run_laws.proofs.Checked.{built_is_checked}
use Rattle.run_laws.proofs.laws.built_is_checked.Goals as goal

pub returns : goal.returns
returns c = built_is_checked
