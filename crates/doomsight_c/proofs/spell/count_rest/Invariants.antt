use Rattle.std.proofs.Common.{◌≡◌, ◌+◌, ◌-◌, ◌<◌, ◌^◌, length}
use Rattle.doomsight_c.proofs.spell.count_rest.Given as goal

-- what was counted and what is still to come are all
abbrev pub invariant-loop-piece : goal.invariant-loop-piece
invariant-loop-piece l = record {
  exact : l.fn.before + length l.fn.printer < 2 ^ 64 - 1 → l.size + length l.printer ≡ l.fn.before + length l.fn.printer;
  most : l.size < 2 ^ 64 - 1 → l.size + length l.printer ≡ l.fn.before + length l.fn.printer;
  room : length l.piece ≡ 4096;
}

abbrev pub decreases-loop-piece : goal.decreases-loop-piece
decreases-loop-piece l = length l.printer
