-- Rows of numbers as bits in words of 64, the least bit of each word first.
use Rattle.std.specs.Prelude.{◌≡◌, ℕ, ◌+◌, ◌/◌, ◌%◌, ◌^◌, ◌<◌, ◌≤◌, ◌⊎◌, ◌==◌, ◌||◌, not, Bool, true, false, ◌↔◌, List, [], ◌∷◌, Option, Some, None, take, drop, length, slice_index, bit_and}
use Rattle.std.specs.Int.{bit_at}

-- the number is in the row
abbrev pub is_in : List ℕ → ℕ → Bool
is_in row c = bit_at (slice_index row (c / 64)) (c % 64) == 1

-- the row is that of the numbers of which P holds
abbrev pub AreBitsOf : List ℕ → (ℕ → Type 0) → Type 0
AreBitsOf row P = (c : ℕ) → (bit_at (slice_index row (c / 64)) (c % 64) ≡ 1) ↔ P c

-- what both rows have; as long as the first
abbrev pub both_words : List ℕ → List ℕ → List ℕ
both_words [] ys = []
both_words (x ∷ xs) [] = 0 ∷ both_words xs []
both_words (x ∷ xs) (y ∷ ys) = bit_and x y ∷ both_words xs ys

-- a bit of some word is set
abbrev pub has_bit_in_words : List ℕ → Bool
has_bit_in_words [] = false
has_bit_in_words (x ∷ xs) = not (x % 2 ^ 64 == 0) || has_bit_in_words xs

-- the row of so many words at this place
abbrev pub row_in_words : List ℕ → ℕ → ℕ → List ℕ
row_in_words words width at = take width (drop at words)

-- the sector isn't in the row; none never is
abbrev pub is_away : List ℕ → Option ℕ → Bool
is_away row None = true
is_away row (Some c) = not (is_in row c)

-- so many words from the one place on were met with those of the mask, and put from the other place on; all others stayed
pub record HasMet (old mask : List ℕ) (at to k : ℕ) (new : List ℕ) : Type 0 where
  pub len : length new ≡ length old
  pub met : (j : ℕ) → j < k → slice_index new (to + j) ≡ bit_and (slice_index old (at + j)) (slice_index mask j)
  pub others : (j : ℕ) → (j < to) ⊎ (to + k ≤ j) → slice_index new j ≡ slice_index old j

-- there is no bit in so many words from this place on; all others stayed
pub record IsCleared (old : List ℕ) (from k : ℕ) (new : List ℕ) : Type 0 where
  pub len : length new ≡ length old
  pub none : (j : ℕ) → j < k → slice_index new (from + j) ≡ 0
  pub others : (j : ℕ) → (j < from) ⊎ (from + k ≤ j) → slice_index new j ≡ slice_index old j
