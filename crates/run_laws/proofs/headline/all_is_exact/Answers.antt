use Rattle.run_laws.proofs.AllRight.{all_is_exact}
use Rattle.run_laws.proofs.headline.all_is_exact.Goals as goal

pub returns : goal.returns
returns c = all_is_exact
