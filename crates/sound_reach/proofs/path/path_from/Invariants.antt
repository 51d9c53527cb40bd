use Rattle.sound_reach.proofs.Firsts.{IsOnWay}
use Rattle.sound_reach.proofs.path.path_from.Given as goal

abbrev pub invariant-loop-done : goal.invariant-loop-done
invariant-loop-done l = IsOnWay l.doors.doors.items l.to l.distances l.fn.from l.distance l.done l.sides.items l.at
