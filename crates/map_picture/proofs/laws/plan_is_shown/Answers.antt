use Rattle.map_picture.proofs.Faced.{plan_shown}
use Rattle.map_picture.proofs.laws.plan_is_shown.Goals as goal

pub returns : goal.returns
returns c = plan_shown
