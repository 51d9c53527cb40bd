use Rattle.sight_lift.proofs.SequenceLaws.All.{stand_in_order}
use Rattle.sight_lift.proofs.sequence_laws.sequences_stand_in_order.Goals as goal

pub returns : goal.returns
returns c = stand_in_order
