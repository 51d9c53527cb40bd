use Rattle.std.proofs.Common.{◌-◌, ◌≤◌, ◌^◌, length}
use Rattle.listeners.specs.Listening.{listener_text}
use Rattle.listeners.proofs.report.text_len.Given as goal

-- the length lies between the two
abbrev pub invariant-loop-low : goal.invariant-loop-low
invariant-loop-low g l =
    let text = listener_text ((goal.Listener-dyn g (l.listener.vtable, l.listener.value)).listener_state l.listener.value) in
    record {
      low : l.low ≤ length text;
      high : length text ≤ l.high;
      most : l.high ≤ 2 ^ 63;
    }

abbrev pub decreases-loop-low : goal.decreases-loop-low
decreases-loop-low g l = l.high - l.low
