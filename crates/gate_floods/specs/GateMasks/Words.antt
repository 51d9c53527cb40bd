-- Sets of numbers as bits in words of 64, the least bit of each word first.
use Rattle.std.specs.Prelude.{◌≡◌, ℕ, ◌/◌, ◌%◌, ◌↔◌, List, slice_index}
use Rattle.std.specs.Int.{bit_at}

-- the number is in the set
abbrev pub HasBit : List ℕ → ℕ → Type 0
HasBit words c = bit_at (slice_index words (c / 64)) (c % 64) ≡ 1

-- the set is that of all numbers of which P holds
abbrev pub AreBitsOf : List ℕ → (ℕ → Type 0) → Type 0
AreBitsOf words P = (c : ℕ) → HasBit words c ↔ P c
