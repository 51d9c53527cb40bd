use Rattle.std.proofs.Common.{◌-◌, ◌+◌, ◌≤◌, length}
use Rattle.std.specs.Prelude.{vec_capacity, vec_len}
use Rattle.listeners.proofs.InTurn.{IsOnWay}
use Rattle.listeners.proofs.telling.tell.Given as goal

-- the listeners in front were told
abbrev pub invariant-loop-at : goal.invariant-loop-at
invariant-loop-at g l =
    record {
      on_way : IsOnWay (λ b. (goal.Listener-dyn g (b.vtable, b.value)).listener_state b.value) l.finding l.fn.list.items l.list.items l.at l.fn.ended.items l.ended.items;
      room : vec_len l.ended + (length l.list.items - l.at) ≤ vec_capacity l.ended;
    }

abbrev pub decreases-loop-at : goal.decreases-loop-at
decreases-loop-at g l = length l.list.items - l.at
