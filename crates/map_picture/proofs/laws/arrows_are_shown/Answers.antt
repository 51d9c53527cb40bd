use Rattle.map_picture.proofs.Marking.{arrows_shown}
use Rattle.map_picture.proofs.laws.arrows_are_shown.Goals as goal

pub returns : goal.returns
returns c = arrows_shown
