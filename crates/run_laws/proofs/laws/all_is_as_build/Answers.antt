use Rattle.run_laws.proofs.AllWritten.{all_is_as_build}
use Rattle.run_laws.proofs.laws.all_is_as_build.Goals as goal

pub returns : goal.returns
returns c = all_is_as_build
