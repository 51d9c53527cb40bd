use Rattle.map_picture.proofs.Ringed.{rings_inside}
use Rattle.map_picture.proofs.laws.rings_are_inside.Goals as goal

pub returns : goal.returns
returns c = rings_inside
