use Rattle.pair_answer.specs.Places.{AreJoinedBelow}
use Rattle.pair_answer.proofs.places.joined.Given as goal

abbrev pub invariant-loop-i : goal.invariant-loop-i
invariant-loop-i l = AreJoinedBelow l.i l.components l.groups l.others l.kept.items
