use Rattle.sight_names.specs.Map.{map_of}
use Rattle.gate_floods.specs.GateMasks.Masks.{IsLeftOut}
use Rattle.gate_floods.proofs.GateMasks.Masking.{AreMasksBelow}
use Rattle.gate_floods.proofs.gate_masks.masks.masks_of.Given as goal

abbrev pub invariant-loop-k : goal.invariant-loop-k
invariant-loop-k l = AreMasksBelow (map_of l.plan) (IsLeftOut l.joined) l.k l.masks.items
