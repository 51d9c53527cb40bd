-- Rows of bits, one for each group.
use Rattle.std.specs.Prelude.{◌≡◌, ℕ, ◌*◌, ◌<◌, ◌≤◌, ◌⊎◌, ◌↔◌, List, Some, length, slice_get, slice_set, true}
use Rattle.sight_names.specs.declared.names.PairRay.{PairRay}
use Rattle.gate_floods.specs.Bits.{is_joined}
use Rattle.gate_floods.specs.declared.gate_masks.masks.Row.{Row}
use Rattle.gate_floods.specs.GateMasks.Words.{HasBit, AreBitsOf}

-- rows of n groups, each with room for n numbers; that of group f has the numbers of which P f holds
pub record AreRowsOf (n : ℕ) (P : ℕ → ℕ → Type 0) (rows : List Row) : Type 0 where
  pub len : length rows ≡ n
  pub room : (f : ℕ) (r : Row) → slice_get rows f ≡ Some r → n ≤ 64 * length r.words.items
  pub bits : (f : ℕ) (r : Row) → slice_get rows f ≡ Some r → AreBitsOf r.words.items (P f)

-- of n groups those that the rays join with one
abbrev pub IsJoinedBit : List PairRay → ℕ → ℕ → ℕ → Type 0
IsJoinedBit rays n f k = (k < n) × (is_joined rays f k ≡ true)

abbrev pub AreJoinedRows : ℕ → List PairRay → List Row → Type 0
AreJoinedRows n rays rows = AreRowsOf n (IsJoinedBit rays n) rows

-- ---- rows as they are made

-- the row has room for n numbers, and this one alone
pub record IsRowOfOne (n f : ℕ) (r : Row) : Type 0 where
  pub room : n ≤ 64 * length r.words.items
  pub bits : AreBitsOf r.words.items (λ k. k ≡ f)

-- the first m rows, each of which has its own number alone
pub record AreOwnRows (n m : ℕ) (rows : List Row) : Type 0 where
  pub len : length rows ≡ m
  pub each : (f : ℕ) (r : Row) → slice_get rows f ≡ Some r → IsRowOfOne n f r

-- the second row has the number too, and else what the first has
pub record AddsBit (k : ℕ) (old new : Row) : Type 0 where
  pub len : length new.words.items ≡ length old.words.items
  pub bits : (c : ℕ) → HasBit new.words.items c ↔ (HasBit old.words.items c ⊎ (c ≡ k))

-- the row at place f has number k too, and all else is as it was
pub record AddsAt (f k : ℕ) (old new : List Row) : Type 0 where
  pub row : Row
  pub put : Row
  pub there : slice_get old f ≡ Some row
  pub adds : AddsBit k row put
  pub rows : new ≡ slice_set old f put
