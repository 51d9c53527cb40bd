use Rattle.pair_answer.proofs.OneName.{ray_of_sectors}
use Rattle.pair_answer.proofs.laws.rays_are_of_sectors.Goals as goal

pub returns : goal.returns
returns c = ray_of_sectors
