-- Loose ends: the points at which just one line ends.
use Rattle.std.specs.Prelude.{◌≡◌, ◌≢◌, ℕ, ◌<◌, ◌⊎◌, List, [], ◌∷◌, ◌++◌, Option, Some, None, length, slice_get, slice_index_or, option_and_then, Contains}
use Rattle.sight_names.specs.declared.plan.Line.{Line}
use Rattle.sight_names.specs.Plan.{PlanParts}
use Rattle.sight_names.specs.Order.{Ascends}
use Rattle.map_faults.specs.declared.loose_ends.Ends.{Ends}
use Rattle.map_faults.specs.declared.loose_ends.Ends.TheVariants.{Nowhere, One, More}
use Rattle.map_faults.specs.declared.loose_ends.LooseEnd.{LooseEnd}

-- the line of this record ends at the point with this number
abbrev pub EndsAt : PlanParts → ℕ → ℕ → Type 0
EndsAt p i k = (l : Line) × (slice_get p.lines i ≡ Some (Some l)) × ((l.a ≡ k) ⊎ (l.b ≡ k))

-- it does, and no other line does
pub record IsLooseEnd (p : PlanParts) (e : LooseEnd) : Type 0 where
  pub ends : EndsAt p e.line e.point
  pub only : (j : ℕ) → EndsAt p j e.point → j ≡ e.line

-- just all loose ends, by their points
pub record AreLooseEnds (p : PlanParts) (es : List LooseEnd) : Type 0 where
  pub each : (e : LooseEnd) → Contains es e → IsLooseEnd p e
  pub all : (e : LooseEnd) → IsLooseEnd p e → Contains es e
  pub ascend : Ascends (λ (e f : LooseEnd). e.point < f.point) es

-- ---- record after record

-- what ends at the point, of the first n records: nothing, one line, or two
abbrev pub IsEnds : PlanParts → ℕ → ℕ → Ends → Type 0
IsEnds p n k Nowhere = (i : ℕ) → i < n → ¬ EndsAt p i k
IsEnds p n k (One i) = (i < n) × EndsAt p i k × ((j : ℕ) → j < n → EndsAt p j k → j ≡ i)
IsEnds p n k More = (i : ℕ) × (j : ℕ) × (i ≢ j) × EndsAt p i k × EndsAt p j k

-- of each point
pub record AreEndsBelow (p : PlanParts) (n : ℕ) (es : List Ends) : Type 0 where
  pub len : length es ≡ length p.points
  pub each : (k : ℕ) (d : Ends) → k < length p.points → IsEnds p n k (slice_index_or es k d)

abbrev pub AreEnds : PlanParts → List Ends → Type 0
AreEnds p es = AreEndsBelow p (length p.lines) es

abbrev pub noted : ℕ → Ends → Ends
noted i Nowhere = One i
noted i (One j) = More
noted i More = More

-- the line is noted at its ends
pub record NotesLine (i : ℕ) (l : Line) (old new : List Ends) : Type 0 where
  pub len : length new ≡ length old
  pub here : (k : ℕ) (d : Ends) → k < length old → (l.a ≡ k) ⊎ (l.b ≡ k) → slice_index_or new k d ≡ noted i (slice_index_or old k d)
  pub others : (k : ℕ) (d : Ends) → k ≢ l.a → k ≢ l.b → slice_index_or new k d ≡ slice_index_or old k d

abbrev pub NotesEntry : ℕ → Option Line → List Ends → List Ends → Type 0
NotesEntry i None old new = new ≡ old
NotesEntry i (Some l) old new = NotesLine i l old new

abbrev pub NotesRecord : PlanParts → ℕ → List Ends → List Ends → Type 0
NotesRecord p i old new = NotesEntry i (option_and_then (λ l. l) (slice_get p.lines i)) old new

-- the point is added behind the others if just one line ends there
abbrev pub AddsLoose : ℕ → Ends → List LooseEnd → List LooseEnd → Type 0
AddsLoose k Nowhere old new = new ≡ old
AddsLoose k (One i) old new = new ≡ old ++ record { point = k; line = i } ∷ []
AddsLoose k More old new = new ≡ old
