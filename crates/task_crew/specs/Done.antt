-- What is made of tasks.
use Rattle.std.specs.Prelude.{◌≡◌, ℕ, List, Option, Some, length, slice_get}

-- something that may be made of each of so many tasks, in their order
pub record AreTasksDone {D : Type 0} (is : ℕ → D → Type 0) (count : ℕ) (made : List D) : Type 0 where
  pub len : length made ≡ count
  pub each : (i : ℕ) (d : D) → slice_get made i ≡ Some d → is i d

-- whatever stands at a place may be made of its task
abbrev pub Stand : {D : Type 0} → (ℕ → D → Type 0) → List (Option D) → Type 0
Stand {D} is slots = (i : ℕ) (d : D) → slice_get slots i ≡ Some (Some d) → is i d
