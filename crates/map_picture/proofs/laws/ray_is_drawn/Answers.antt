use Rattle.map_picture.proofs.Spots.{ray_drawn}
use Rattle.map_picture.proofs.laws.ray_is_drawn.Goals as goal

pub returns : goal.returns
returns c = ray_drawn
