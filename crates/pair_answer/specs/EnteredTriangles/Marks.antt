-- Marks by number.
use Rattle.std.specs.Prelude.{◌≡◌, ℕ, ◌<◌, ◌⊎◌, ◌↔◌, List, Option, Some, length, slice_get, Contains, Bool, true}
use Rattle.sight_names.specs.Mesh.{label_of}
use Rattle.sight_names.specs.Order.{Ascends}

-- the number is marked
abbrev pub IsNumberMarked : List Bool → ℕ → Type 0
IsNumberMarked marks k = slice_get marks k ≡ Some true

-- this one is marked, too
pub record IsMarkedToo (k : ℕ) (old new : List Bool) : Type 0 where
  pub len : length new ≡ length old
  pub marks : (j : ℕ) → j < length old → IsNumberMarked new j ↔ (IsNumberMarked old j ⊎ (k ≡ j))

-- the numbers that are marked, in order
pub record IsListOf (marks : List Bool) (ks : List ℕ) : Type 0 where
  pub ascend : Ascends ◌<◌ ks
  pub exactly : (k : ℕ) → Contains ks k ↔ IsNumberMarked marks k

-- so many marks, of which just these are set
pub record HasMarksOf (count : ℕ) (ks : List ℕ) (marks : List Bool) : Type 0 where
  pub len : length marks ≡ count
  pub exactly : (k : ℕ) → IsNumberMarked marks k ↔ Contains ks k

-- the triangle has a label that is marked
abbrev pub IsNamedBy : List (Option ℕ) → List Bool → ℕ → Type 0
IsNamedBy ls marks k = (a : ℕ) × (label_of ls k ≡ Some a) × IsNumberMarked marks a
