use Rattle.run_laws.proofs.Checked.{built_run_is_checked}
use Rattle.run_laws.proofs.laws.built_run_is_checked.Goals as goal

pub returns : goal.returns
returns c = built_run_is_checked
