-- What the walks of sources within a budget mark.
use Rattle.std.specs.Prelude.{◌≡◌, ℕ, ◌<◌, ◌⊎◌, ◌↔◌, List, Option, Some, Contains, Bool, true, false, length, slice_get}
use Rattle.sight_names.specs.declared.names.Budget.{Budget}
use Rattle.sight_names.specs.declared.names.Triangle.{Triangle}
use Rattle.sight_names.specs.Found.{Spent}
use Rattle.sight_names.specs.Map.{Map}
use Rattle.pair_answer.specs.EnteredTriangles.Entered.{Enters, IsEntered}
use Rattle.pair_answer.specs.EnteredTriangles.Marks.{IsNumberMarked}

module _ (m : Map) (ts : List Triangle) (ls : List (Option ℕ)) (budget : Budget) where
  -- the walk came to its end within the budget and marked what it enters, or there is more than the budget
  abbrev pub IsMarkedByWalk : ℕ → List Bool → List Bool → Bool → Type 0
  IsMarkedByWalk a old new true = (¬ Spent m ts ls a budget) × ((k : ℕ) → IsNumberMarked new k ↔ (IsNumberMarked old k ⊎ Enters m ts ls a k))
  IsMarkedByWalk a old new false = Spent m ts ls a budget

  -- one of the sources has more than the budget
  abbrev pub IsOneSpent : List ℕ → Type 0
  IsOneSpent sources = (a : ℕ) × Contains sources a × Spent m ts ls a budget

  -- none has more, and the marks are those of what one of them enters
  pub record AllEnded (sources : List ℕ) (marks : List Bool) : Type 0 where
    pub each : length marks ≡ length ts
    pub unspent : (a : ℕ) → Contains sources a → ¬ Spent m ts ls a budget
    pub marked : (k : ℕ) → IsNumberMarked marks k ↔ IsEntered m ts ls sources k

  -- of the first n sources
  pub record EndedBelow (n : ℕ) (sources : List ℕ) (marks : List Bool) : Type 0 where
    pub each : length marks ≡ length ts
    pub unspent : (i a : ℕ) → i < n → slice_get sources i ≡ Some a → ¬ Spent m ts ls a budget
    pub marked : (k : ℕ) → IsNumberMarked marks k ↔ ((i a : ℕ) × (i < n) × (slice_get sources i ≡ Some a) × Enters m ts ls a k)
