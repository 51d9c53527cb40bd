use Rattle.exact_checker.specs.Owning.{owning_of, RanksFrom}
use Rattle.exact_checker.proofs.Owned.{BitsBetween}
use Rattle.exact_checker.proofs.owning.ranking_from.Given as goal

abbrev pub invariant-loop-other : goal.invariant-loop-other
invariant-loop-other l = BitsBetween (RanksFrom (owning_of l.known) l.component l.least) l.first l.from l.other l.bits
