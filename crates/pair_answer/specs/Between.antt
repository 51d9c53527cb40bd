-- What the walks between two lists of groups decide.
use Rattle.std.specs.Prelude.{◌≡◌, ℕ, ◌⊎◌, List, Option, Contains, slice_get}
use Rattle.sight_names.specs.declared.names.Budget.{Budget}
use Rattle.sight_names.specs.declared.names.Ray.{Ray}
use Rattle.sight_names.specs.declared.names.Triangle.{Triangle}
use Rattle.sight_names.specs.Found.{Found, IsListedOver, Spent}
use Rattle.sight_names.specs.Map.{Map}
use Rattle.sight_names.specs.Ray.{IsSightRay}
use Rattle.sight_names.specs.Sees.{Sees}
use Rattle.pair_answer.specs.declared.answer.PairAnswer.{PairAnswer}
use Rattle.pair_answer.specs.declared.answer.PairAnswer.TheVariants as answer
use Rattle.pair_answer.specs.Places.{IsJoined}

-- no group is one of both
abbrev pub AreApart : List ℕ → List ℕ → Type 0
AreApart from to = (f : ℕ) → Contains from f → ¬ Contains to f

module _ (m : Map) (ts : List Triangle) (ls : List (Option ℕ)) (budget : Budget) where
  -- the ray is a sight ray from one of the first to one of the second, of which one is found from the other
  pub record IsRayAcross (from to : List ℕ) (ray : Ray) : Type 0 where
    pub f : ℕ
    pub k : ℕ
    pub start : Contains from f
    pub stop : Contains to k
    pub sight : IsSightRay m ray f k
    pub found : Found m ts ls f k budget ⊎ Found m ts ls k f budget

  -- none is found from the other side
  abbrev pub AreUnfound : List ℕ → List ℕ → Type 0
  AreUnfound from to = (f k : ℕ) → Contains from f → Contains to k → ¬ Found m ts ls f k budget × ¬ Found m ts ls k f budget

  -- none sees one of the other side
  abbrev pub AreBlind : List ℕ → List ℕ → Type 0
  AreBlind from to = (f k : ℕ) → Contains from f → Contains to k → ¬ Sees m f k

  -- none is listed with one of the other side
  abbrev pub AreUnlisted : List ℕ → List ℕ → Type 0
  AreUnlisted from to = (f k : ℕ) → Contains from f → Contains to k → ¬ IsListedOver m ts ls budget f k

  -- one is listed with one of the other side
  abbrev pub AreSomeListed : List ℕ → List ℕ → Type 0
  AreSomeListed from to = (f k : ℕ) × Contains from f × Contains to k × IsListedOver m ts ls budget f k

  -- what all walks between the two decide
  abbrev pub IsAnswerBetween : List ℕ → List ℕ → PairAnswer → Type 0
  IsAnswerBetween from to (answer.Sight ray) = IsRayAcross from to ray
  IsAnswerBetween from to answer.Blind = AreBlind from to × AreUnlisted from to
  IsAnswerBetween from to answer.Listed = AreUnfound from to × AreSomeListed from to
  IsAnswerBetween from to other = ⊥

  -- ---- the walks back, to sources whose budgets are spent

  -- one of the spent sources and one of the second have one component, and the second is spent too
  abbrev pub AreSomeLeft : List ℕ → List ℕ → List ℕ → Type 0
  AreSomeLeft components spent to = (f k : ℕ) × Contains spent f × Contains to k × (slice_get components k ≡ slice_get components f) × Spent m ts ls k budget

  -- of those of the second that have the component of a spent source, none finds a spent source
  abbrev pub FindNone : List ℕ → List ℕ → List ℕ → Type 0
  FindNone components spent to = (f k : ℕ) → Contains spent f → Contains to k → IsJoined components spent k → ¬ Found m ts ls k f budget

  abbrev pub IsAnswerBack : List ℕ → List ℕ → List ℕ → PairAnswer → Type 0
  IsAnswerBack components spent to (answer.Sight ray) = IsRayAcross spent to ray
  IsAnswerBack components spent to answer.Blind = FindNone components spent to × ¬ AreSomeLeft components spent to
  IsAnswerBack components spent to answer.Listed = FindNone components spent to × AreSomeLeft components spent to
  IsAnswerBack components spent to other = ⊥
