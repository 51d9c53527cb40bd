-- What a walk that seeks targets is told, and knows.
use Rattle.std.specs.Prelude.{◌≡◌, ℕ, List, [], ◌∷◌, Option, Some, None, slice_get, option_and_then}
use Rattle.pair_budget.specs.Notes.{ordered}

-- the source with itself: a pair that stands for the end of its search
abbrev pub IsOwnPair : ℕ → ℕ → ℕ → Type 0
IsOwnPair source a b = (a ≡ source) × (b ≡ source)

-- the target that was hit
abbrev pub target_at : List ℕ → Option ℕ → Option ℕ
target_at targets hit = option_and_then (slice_get targets) hit

-- the pair of the source and the target
abbrev pub pair_with : ℕ → Option ℕ → List (ℕ × ℕ)
pair_with source None = []
pair_with source (Some target) = ordered source target ∷ []

-- the pair of the source with itself, once a target is hit
abbrev pub pair_once : ℕ → Option ℕ → List (ℕ × ℕ)
pair_once source None = []
pair_once source (Some target) = ordered source source ∷ []

abbrev pub hits : ℕ → List ℕ → Option ℕ → List (ℕ × ℕ)
hits source targets hit = pair_with source (target_at targets hit)

abbrev pub pair_told : ℕ → List ℕ → Option ℕ → List (ℕ × ℕ)
pair_told source targets hit = pair_once source (target_at targets hit)
