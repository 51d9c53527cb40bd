use Rattle.std.specs.Prelude.{⊤}
use Rattle.pair_answer.proofs.seeker.place_of.Given as goal

abbrev pub invariant-loop-i : goal.invariant-loop-i
invariant-loop-i l = ⊤
