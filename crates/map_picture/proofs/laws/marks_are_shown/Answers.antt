use Rattle.map_picture.proofs.Marking.{marks_shown}
use Rattle.map_picture.proofs.laws.marks_are_shown.Goals as goal

pub returns : goal.returns
returns c = marks_shown
