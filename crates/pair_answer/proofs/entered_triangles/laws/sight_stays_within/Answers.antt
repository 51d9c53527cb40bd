use Rattle.pair_answer.proofs.EnteredTriangles.Told.{sight_stays}
use Rattle.pair_answer.proofs.entered_triangles.laws.sight_stays_within.Goals as goal

pub returns : goal.returns
returns c = sight_stays
