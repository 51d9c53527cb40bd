use Rattle.std.proofs.Common.{◌≡◌}
use Rattle.udmf_map.specs.Values.{lowered}
use Rattle.udmf_map.proofs.values.lowered.Given as goal

abbrev pub invariant-loop-places : goal.invariant-loop-places
invariant-loop-places l = record { same : lowered l.negative l.left l.places ≡ lowered l.negative l.mantissa l.power }

abbrev pub decreases-loop-places : goal.decreases-loop-places
decreases-loop-places l = l.places
