-- Which gate may follow which, by their ends.
use Rattle.std.specs.Prelude.{◌⊎◌, pos, ◌<ℤ◌}
use Rattle.geom_exact.specs.Formulas.{turn_of}
use Rattle.gate_floods.specs.declared.gate_masks.gate.Gate.{Gate}

-- an end of f is in front of e, and an end of e in the back of f
pub record GateFollows (e f : Gate) : Type 0 where
  pub in_front : (pos 0 <ℤ turn_of e.left_at e.right_at f.left_at) ⊎ (pos 0 <ℤ turn_of e.left_at e.right_at f.right_at)
  pub in_back : (turn_of f.left_at f.right_at e.left_at <ℤ pos 0) ⊎ (turn_of f.left_at f.right_at e.right_at <ℤ pos 0)
