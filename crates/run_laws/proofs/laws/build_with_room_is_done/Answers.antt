use Rattle.run_laws.proofs.Room.{build_with_room_is_done}
use Rattle.run_laws.proofs.laws.build_with_room_is_done.Goals as goal

pub returns : goal.returns
returns c = build_with_room_is_done
