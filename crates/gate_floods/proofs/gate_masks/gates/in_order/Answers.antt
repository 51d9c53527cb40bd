use Rattle.std.proofs.Common.{rules}
use Rattle.std.proofs.lemmas.List.Sorted.{IsNonDecreasingBy-from_sort_by_key}
use Rattle.gate_floods.specs.declared.gate_masks.gate.Gate.{Gate}
use Rattle.gate_floods.proofs.gate_masks.gates.in_order.Goals as goal

pub returns-clause-order : goal.returns-clause-order
returns-clause-order c = IsNonDecreasingBy-from_sort_by_key (λ (e : Gate). e.near) _ c.in_ok-sort_by_key.ensures.sorted (λ a r q k. search rules)
