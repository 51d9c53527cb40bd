use Rattle.pair_answer.proofs.EnteredTriangles.Told.{unseen_not_entered}
use Rattle.pair_answer.proofs.entered_triangles.laws.unseen_is_not_entered.Goals as goal

pub returns : goal.returns
returns c = unseen_not_entered
