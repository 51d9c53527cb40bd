-- Flags by number: those that are set, and one that is set too.
use Rattle.std.specs.Prelude.{◌≡◌, ℕ, ◌<◌, ◌⊎◌, ◌↔◌, List, Option, Some, length, slice_get, Bool, true}

-- the flag with this number is set
abbrev pub IsFlagSet : List Bool → ℕ → Type 0
IsFlagSet flags a = slice_get flags a ≡ Some true

-- the flag with this number is set too, if there is one
pub record Marks (number : Option ℕ) (old new : List Bool) : Type 0 where
  pub len : length new ≡ length old
  pub flags : (a : ℕ) → a < length old → IsFlagSet new a ↔ (IsFlagSet old a ⊎ (number ≡ Some a))

-- so many flags, none of them set
pub record HasNoMark (n : ℕ) (marks : List Bool) : Type 0 where
  pub len : length marks ≡ n
  pub none : (a : ℕ) → a < n → ¬ IsFlagSet marks a
