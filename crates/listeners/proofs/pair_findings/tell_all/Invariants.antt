use Rattle.std.proofs.Common.{map, drop}
use Rattle.listeners.proofs.Turns.{IsUnderWay}
use Rattle.listeners.specs.PairFindings.Found.{findings_of}
use Rattle.listeners.specs.PairFindings.Place.{IsLeftAt}
use Rattle.listeners.proofs.PairFindings.Rows.{rows_from}
use Rattle.listeners.proofs.pair_findings.tell_all.Given as goal

-- the findings of the rows before this one are told
abbrev pub invariant-loop-a : goal.invariant-loop-a
invariant-loop-a g l =
    record {
      on_way : IsUnderWay (findings_of l.table l.listed) (rows_from l.table l.listed l.a) (map (λ b. (goal.Listener-dyn g (b.vtable, b.value)).listener_state b.value) l.fn.list.items) (map (λ b. (goal.Listener-dyn g (b.vtable, b.value)).listener_state b.value) l.list.items) (map (λ b. (goal.Listener-dyn g (b.vtable, b.value)).listener_state b.value) l.fn.ended.items) (map (λ b. (goal.Listener-dyn g (b.vtable, b.value)).listener_state b.value) l.ended.items);
      place : IsLeftAt l.listed (drop l.place l.listed) l.a l.a;
    }
