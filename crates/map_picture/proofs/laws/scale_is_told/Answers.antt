use Rattle.map_picture.proofs.Scales.{scale_told}
use Rattle.map_picture.proofs.laws.scale_is_told.Goals as goal

pub returns : goal.returns
returns c = scale_told
