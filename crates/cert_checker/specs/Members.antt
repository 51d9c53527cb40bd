-- The groups of each sector.
use Rattle.std.specs.Prelude.{◌≡◌, ℕ, ◌<◌, ◌↔◌, List, [], ◌∷◌, ◌++◌, Bool, true, false, Some, length, slice_get, Contains}

-- the list of the sector has the group
abbrev pub IsMember : List (List ℕ) → ℕ → ℕ → Type 0
IsMember lists a f = (fs : List ℕ) × (slice_get lists a ≡ Some fs) × Contains fs f

-- there is a list of groups below count for each of n sectors
pub record AreMembersBelow (count n : ℕ) (lists : List (List ℕ)) : Type 0 where
  pub len : length lists ≡ n
  pub below : (a f : ℕ) (fs : List ℕ) → slice_get lists a ≡ Some fs → Contains fs f → f < count

-- the lists of n sectors have exactly the groups that contain each
pub record AreMembersBy (In : ℕ → ℕ → Type 0) (n : ℕ) (lists : List (List ℕ)) : Type 0 where
  pub len : length lists ≡ n
  pub each : (a : ℕ) (fs : List ℕ) → slice_get lists a ≡ Some fs → (f : ℕ) → Contains fs f ↔ In a f

-- the number behind the others, if it is added
abbrev pub added : Bool → ℕ → List ℕ → List ℕ
added true f fs = fs ++ f ∷ []
added false f fs = fs
