use Rattle.sight_names.specs.declared.names.Pair.{Pair}
use Rattle.pair_budget.specs.Opened.{OpensBefore}
use Rattle.pair_budget.proofs.deciding.open_listed.Given as goal

abbrev pub invariant-loop-pair : goal.invariant-loop-pair
invariant-loop-pair l = OpensBefore Pair (λ q. q) l.listed l.pair-index l.initial.seen l.seen
