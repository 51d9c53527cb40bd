use Rattle.map_picture.proofs.Faced.{heat_shown}
use Rattle.map_picture.proofs.laws.heat_is_shown.Goals as goal

pub returns : goal.returns
returns c = heat_shown
