use Rattle.map_picture.proofs.Framed.{read_back}
use Rattle.map_picture.proofs.laws.points_are_read_back.Goals as goal

pub returns : goal.returns
returns c = read_back
