use Rattle.map_picture.proofs.Ordered.{lines_shown}
use Rattle.map_picture.proofs.laws.lines_are_shown.Goals as goal

pub returns : goal.returns
returns c = lines_shown
