use Rattle.doomsight_c.proofs.KeptBuilds.{given_of_kept}
use Rattle.doomsight_c.proofs.keep.kept_is_given.Goals as goal

pub returns : goal.returns
returns c = given_of_kept
