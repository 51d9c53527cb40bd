-- All pairs of lines that share more than an end of both, in order.
use Rattle.std.specs.Prelude.{◌≡◌, ℕ, ◌<◌, ◌⊎◌, ◌↔◌, List, [], ◌∷◌, ◌++◌, length, take, Contains}
use Rattle.sight_names.specs.declared.faults.LineFault.{LineFault}
use Rattle.sight_names.specs.Map.{Map}
use Rattle.sight_names.specs.Order.{Ascends}
use Rattle.map_audit.specs.Audit.{FineAt, IsLineFaultOf}
use Rattle.map_faults.specs.declared.clashes.LinePair.{LinePair}
use Rattle.map_faults.specs.declared.clashes.TheConstants.{MOST_CLASHES}

abbrev pub clash_of_lines : ℕ → ℕ → LinePair
clash_of_lines i j = record { i = i; j = j }

-- the lines of the two records share more than an end of both, and the lesser number is first
pub record IsClash (m : Map) (p : LinePair) : Type 0 where
  pub ordered : p.i < p.j
  pub fault : LineFault
  pub is : IsLineFaultOf m p.i p.j fault

-- by the first number, then by the second
abbrev pub IsEarlierClash : LinePair → LinePair → Type 0
IsEarlierClash p q = (p.i < q.i) ⊎ ((p.i ≡ q.i) × (p.j < q.j))

-- the list has just the clashing pairs, in order
pub record AreClashes (m : Map) (ps : List LinePair) : Type 0 where
  pub each : (p : LinePair) → Contains ps p → IsClash m p
  -- any two records are fine, or their pair is listed
  pub rest : (i j : ℕ) → i < j → FineAt m i j ⊎ Contains ps (clash_of_lines i j)
  pub ascend : Ascends IsEarlierClash ps

-- these are the first of all clashing pairs, and this is the number of all
pub record AreFirstClashes (m : Map) (first : List LinePair) (count : ℕ) : Type 0 where
  pub all : List LinePair
  pub are : AreClashes m all
  pub first_of_all : first ≡ take MOST_CLASHES all
  pub count_of_all : count ≡ length all

-- ---- the pairs of one record

-- just the later records that clash with record i
pub record AreLaterClashes (m : Map) (i : ℕ) (js : List ℕ) : Type 0 where
  pub each : (j : ℕ) → Contains js j → IsClash m (clash_of_lines i j)
  pub rest : (j : ℕ) → i < j → FineAt m i j ⊎ Contains js j

-- in order
pub record AreClashesOf (m : Map) (i : ℕ) (js : List ℕ) : Type 0 where
  pub later : AreLaterClashes m i js
  pub ascend : Ascends (λ x y. x < y) js

-- the record is added behind the others if it is a later one that clashes; if it isn't, it isn't a later one or is fine
abbrev pub AddsIfClash : Map → ℕ → ℕ → List ℕ → List ℕ → Type 0
AddsIfClash m i j old new = (IsClash m (clash_of_lines i j) × (new ≡ old ++ j ∷ [])) ⊎ ((i < j → FineAt m i j) × (new ≡ old))

-- the same numbers, each once and ascending
pub record AreNumbersInOrder (all numbers : List ℕ) : Type 0 where
  pub ascend : Ascends (λ x y. x < y) numbers
  pub exactly : (n : ℕ) → Contains numbers n ↔ Contains all n
