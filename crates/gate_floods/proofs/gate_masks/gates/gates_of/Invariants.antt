use Rattle.sight_names.specs.Map.{map_of}
use Rattle.gate_floods.proofs.GateMasks.Gathering.{AreGatesBelow}
use Rattle.gate_floods.proofs.gate_masks.gates.gates_of.Given as goal

abbrev pub invariant-loop-k : goal.invariant-loop-k
invariant-loop-k l = AreGatesBelow (map_of l.plan) l.k l.gates.items
