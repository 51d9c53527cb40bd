use Rattle.sound_reach.proofs.Firsts.{IsLeastBelow}
use Rattle.sound_reach.proofs.path.first_step.Given as goal

abbrev pub invariant-loop-door : goal.invariant-loop-door
invariant-loop-door l = IsLeastBelow l.distances l.left l.spare l.doors l.door-index l.best
