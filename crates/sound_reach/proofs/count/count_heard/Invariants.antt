use Rattle.sound_reach.proofs.Heards.{IsSumming}
use Rattle.sound_reach.proofs.count.count_heard.Given as goal

abbrev pub invariant-loop-sector : goal.invariant-loop-sector
invariant-loop-sector l = IsSumming l.plan.sectors l.row-items l.sector l.heard.pairs l.heard.silent
