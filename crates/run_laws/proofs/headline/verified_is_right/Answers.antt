use Rattle.run_laws.proofs.Verified.{verified_is_right}
use Rattle.run_laws.proofs.headline.verified_is_right.Goals as goal

pub returns : goal.returns
returns c = verified_is_right
