use Rattle.map_picture.proofs.Faced.{row_shown}
use Rattle.map_picture.proofs.laws.row_is_shown.Goals as goal

pub returns : goal.returns
returns c = row_shown
