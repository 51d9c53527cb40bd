use Rattle.sound_reach.proofs.Heards.{IsFilling}
use Rattle.sound_reach.proofs.count.fill.Given as goal

abbrev pub invariant-loop-done : goal.invariant-loop-done
invariant-loop-done l = IsFilling l.sectors l.distances l.initial.rows l.rows l.done l.count
