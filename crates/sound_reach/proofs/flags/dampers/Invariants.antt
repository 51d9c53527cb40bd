use Rattle.std.proofs.Common.{◌≡◌, map}
use Rattle.std.specs.List.{range_with_len}
use Rattle.sound_reach.specs.Dampers.{is_damper}
use Rattle.sound_reach.proofs.flags.dampers.Given as goal

abbrev pub invariant-loop-k : goal.invariant-loop-k
invariant-loop-k l = l.dampers.items ≡ map (is_damper l.fn.format l.linedefs) (range_with_len 0 l.k)
