-- What is known of the row of a sector that sees none.
use Rattle.std.specs.Prelude.{◌≡◌, ℕ, ◌+◌, ◌-◌, ◌<◌, ◌≤◌, List, Some, [], slice_get, Contains}
use Rattle.sight_names.specs.declared.names.Pair.{Pair}
use Rattle.reject_bits.specs.Parts.{TableParts, Rejects}
use Rattle.cert_checker.specs.Pairs.{pair, set_in_row, IsPlaceOfPair, IsRowFine}

-- the sector has its list of groups, and no group is in it
abbrev pub HasNoGroup : List (List ℕ) → ℕ → Type 0
HasNoGroup members a = slice_get members a ≡ Some []

-- each sector before this one of which P holds has its bit set in the rows of all greater ones
abbrev pub AreColumnsSet : (ℕ → Type 0) → TableParts → ℕ → Type 0
AreColumnsSet P t before = (a b : ℕ) → P a → a < before → a < b → b < t.n → Rejects t b a

-- no pair (a, b) with a <= b is in the list, for this a
abbrev pub IsNoneListed : List Pair → ℕ → Type 0
IsNoneListed pairs a = (b : ℕ) → a ≤ b → ¬ Contains pairs (pair a b)

-- each pair (a, b) with a <= b is fine and set, for this a, and none is in the list, of which so many come before the row
pub record IsRowPlain (fine : ℕ → ℕ → Type 0) (t : TableParts) (pairs : List Pair) (a passed : ℕ) : Type 0 where
  pub fine_row : IsRowFine fine t.n a
  pub set : set_in_row t t.n a ≡ t.n - a
  pub place : IsPlaceOfPair pairs (a + 1) (a + 1) passed
