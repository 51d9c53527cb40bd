use Rattle.std.proofs.Common.{◌≡◌, ◌-◌, ◌/◌, length}
use Rattle.doomsight_c.specs.Lumps.{first_far}
use Rattle.doomsight_c.proofs.lumps.first_far.Given as goal

abbrev pub invariant-loop-k : goal.invariant-loop-k
invariant-loop-k l = first_far l.vertexes l.k (length l.vertexes / 8 - l.k) ≡ first_far l.vertexes 0 (length l.vertexes / 8)
