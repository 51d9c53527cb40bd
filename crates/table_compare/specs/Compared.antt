-- Two tables beside each other.
use Rattle.std.specs.Prelude.{ℕ, ◌+◌, ◌*◌, ◌<◌, ◌/◌, ◌%◌, ◌==◌, ◌&&◌, Bool, List, length, slice_index, Option, Some, None, IsTrue}
use Rattle.std.specs.Int.{bit_at}
use Rattle.std.specs.List.{count_by, range_with_len}
use Rattle.reject_bits.specs.Parts.{Rejects, TableParts}

-- the bit of the pair is set in this table, and clear in the other
abbrev pub SetsAlone : TableParts → TableParts → ℕ → ℕ → Type 0
SetsAlone one other a b = Rejects one a b × ¬ Rejects other a b

-- ---- bits of bytes

-- bit i of the byte is set, and that of the other clear
abbrev pub has_alone : ℕ → ℕ → ℕ → Bool
has_alone byte other i = (bit_at byte i == 1) && (bit_at other i == 0)

-- bit k of the bytes, the least bit of each byte first
abbrev pub is_alone : List ℕ → List ℕ → ℕ → Bool
is_alone one other k = has_alone (slice_index one (k / 8)) (slice_index other (k / 8)) (k % 8)

-- how many bits only these bytes have, and how many only one of the two has
abbrev pub bits_alone : List ℕ → List ℕ → ℕ
bits_alone one other = count_by (is_alone one other) (range_with_len 0 (8 * length one))

abbrev pub bits_changed : List ℕ → List ℕ → ℕ
bits_changed one other = bits_alone one other + bits_alone other one

-- the first place below this one that passes the test, or none exactly where none does
abbrev pub IsFirstBelow : ℕ → (ℕ → Bool) → Option ℕ → Type 0
IsFirstBelow n test (Some k) = (k < n) × IsTrue (test k) × ((j : ℕ) → j < k → ¬ IsTrue (test j))
IsFirstBelow n test None = (j : ℕ) → j < n → ¬ IsTrue (test j)
