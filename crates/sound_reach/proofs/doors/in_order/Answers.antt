use Rattle.std.proofs.Common.{rules}
use Rattle.std.proofs.lemmas.List.Sorted.{IsNonDecreasingBy-from_sort_by_key}
use Rattle.sound_reach.specs.declared.doors.Door.{Door}
use Rattle.sound_reach.proofs.doors.in_order.Goals as goal

pub returns-clause-order : goal.returns-clause-order
returns-clause-order c = IsNonDecreasingBy-from_sort_by_key (λ (e : Door). e.from) _ c.in_ok-sort_by_key.ensures.sorted (λ a r q k. search rules)
