-- Masks of gates as rows of bits.
use Rattle.std.specs.Prelude.{◌≡◌, ℕ, ◌+◌, ◌*◌, List, Option, Some, None, slice_get, option_and_then, if◌then◌else◌}
use Rattle.sight_names.specs.declared.names.Side.{Side}
use Rattle.sight_names.specs.Map.{Map}
use Rattle.sight_names.specs.Sequence.{Portal}
use Rattle.gate_floods.specs.Gates.{IsGate, IsInMask}
use Rattle.gate_floods.specs.declared.gate_masks.gate.Gate.{Gate}
use Rattle.gate_floods.specs.declared.gate_masks.masks.Row.{Row}
use Rattle.gate_floods.specs.GateMasks.Words.{HasBit, AreBitsOf}
use Rattle.gate_floods.specs.GateMasks.Flood.{LiesBeyond}

-- sector k has its bit in the row of sector f
abbrev pub IsInRowOf : List Row → ℕ → ℕ → Type 0
IsInRowOf rows f k = (r : Row) × (slice_get rows f ≡ Some r) × HasBit r.words.items k

-- it has none, or f has no row
abbrev pub IsLeftOut : List Row → ℕ → ℕ → Type 0
IsLeftOut rows f k = ¬ IsInRowOf rows f k

-- the bits are those of what lies beyond the gate and is joined with its far sector
abbrev pub IsGateMask : List Gate → List Row → Gate → List ℕ → Type 0
IsGateMask es joined e words = AreBitsOf words (λ c. LiesBeyond es (IsInRowOf joined e.near) e c × IsInRowOf joined e.far c)

-- the row is the mask of the gate at the side; there is none exactly where no gate is at it
abbrev pub IsMaskAt : Map → (ℕ → ℕ → Type 0) → Side → Option Row → Type 0
IsMaskAt m Claims s None = (b d : ℕ) (p : Portal) (gate : IsGate m b d p) → gate.side ≡ s → ⊥
IsMaskAt m Claims s (Some row) = ((b : ℕ) × (d : ℕ) × (p : Portal) × (gate : IsGate m b d p) × (gate.side ≡ s))
    × ((b d : ℕ) (p : Portal) (gate : IsGate m b d p) → gate.side ≡ s → AreBitsOf row.words.items (IsInMask m Claims b d p))

-- the place of a side in a list with two entries for each line
abbrev pub side_place : Side → ℕ
side_place s = s.line * 2 + (if s.left then 1 else 0)

-- the mask of the gate at a side, in a list that has for each line the one at its right side and the one at its left side
abbrev pub mask_of_side : List (Option Row) → Side → Option Row
mask_of_side masks s = option_and_then (λ o. o) (slice_get masks (side_place s))

abbrev pub AreSideMasks : Map → (ℕ → ℕ → Type 0) → List (Option Row) → Type 0
AreSideMasks m Claims masks = (s : Side) → IsMaskAt m Claims s (mask_of_side masks s)

-- the mask is there, and these are its words
abbrev pub HasWords : Option Row → List ℕ → Type 0
HasWords mask words = (r : Row) × (mask ≡ Some r) × (words ≡ r.words.items)
