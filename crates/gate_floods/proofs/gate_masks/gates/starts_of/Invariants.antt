use Rattle.std.proofs.Common.{◌≡◌, length}
use Rattle.gate_floods.specs.GateMasks.Gates.{AreGateStarts}
use Rattle.gate_floods.proofs.gate_masks.gates.starts_of.Given as goal

abbrev pub invariant-loop-sector : goal.invariant-loop-sector
invariant-loop-sector l = record { len : length l.starts.items ≡ l.sector; starts : AreGateStarts l.gates l.starts.items }
