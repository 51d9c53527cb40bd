use Rattle.std.proofs.Common.{map, drop}
use Rattle.listeners.proofs.Turns.{IsUnderWay}
use Rattle.listeners.specs.PairFindings.Found.{row_from}
use Rattle.listeners.specs.PairFindings.Place.{IsLeftAt}
use Rattle.listeners.proofs.pair_findings.tell_row.Given as goal

-- the findings of the pairs before (a, b) are told
abbrev pub invariant-loop-b : goal.invariant-loop-b
invariant-loop-b g l =
    record {
      on_way : IsUnderWay (row_from l.table l.listed l.a l.a) (row_from l.table l.listed l.a l.b) (map (λ b. (goal.Listener-dyn g (b.vtable, b.value)).listener_state b.value) l.fn.list.items) (map (λ b. (goal.Listener-dyn g (b.vtable, b.value)).listener_state b.value) l.list.items) (map (λ b. (goal.Listener-dyn g (b.vtable, b.value)).listener_state b.value) l.fn.ended.items) (map (λ b. (goal.Listener-dyn g (b.vtable, b.value)).listener_state b.value) l.ended.items);
      place : IsLeftAt l.listed (drop l.place l.listed) l.a l.b;
    }
