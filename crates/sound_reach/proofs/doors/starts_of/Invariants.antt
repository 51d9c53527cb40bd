use Rattle.std.proofs.Common.{◌≡◌, length}
use Rattle.sound_reach.specs.Doors.{AreDoorStarts}
use Rattle.sound_reach.proofs.doors.starts_of.Given as goal

abbrev pub invariant-loop-sector : goal.invariant-loop-sector
invariant-loop-sector l = record { len : length l.starts.items ≡ l.sector; starts : AreDoorStarts l.doors l.starts.items }
