use Rattle.std.proofs.Common.{drop, map}
use Rattle.listeners.specs.Told.{texts}
use Rattle.listeners.proofs.Filling.{IsFilling}
use Rattle.listeners.proofs.report.pieces.Given as goal

-- what is written so far, and what is left
abbrev pub invariant-loop-listener : goal.invariant-loop-listener
invariant-loop-listener g l =
    IsFilling (texts (map (λ b. (goal.Listener-dyn g (b.vtable, b.value)).listener_state b.value) l.list)) l.fn.at l.fn.buf l.buf (texts (map (λ b. (goal.Listener-dyn g (b.vtable, b.value)).listener_state b.value) (drop l.listener-index l.list))) l.at l.filled
