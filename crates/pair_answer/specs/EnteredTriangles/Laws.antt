-- Laws of what sight out of some sources enters.
use Rattle.std.specs.Prelude.{◌≡◌, ℕ, ◌⊎◌, List, Option, Some, Contains, slice_get}
use Rattle.sight_names.specs.declared.names.Triangle.{Triangle}
use Rattle.sight_names.specs.Map.{Map, IsMap}
use Rattle.sight_names.specs.Mesh.{IsGoodMesh, label_of}
use Rattle.sight_names.specs.Path.{MissesSolid}
use Rattle.sight_names.specs.Point.{Point, OnSegment}
use Rattle.sight_names.specs.Sees.{Sees}
use Rattle.sight_names.specs.Sound.{LinesMeetAtEnds}
use Rattle.sight_lift.specs.Lift.{InClosedTriangle, InLabelled}
use Rattle.pair_answer.specs.declared.entered_triangles.entered.Entered.{Entered}
use Rattle.pair_answer.specs.EnteredTriangles.Answer.{AreEnteredOutOf}

-- the point is in the closed triangle of one of these numbers
pub record InNumbered (m : Map) (ts : List Triangle) (ks : List ℕ) (p : Point) : Type 0 where
  pub k : ℕ
  pub t : Triangle
  pub one : Contains ks k
  pub is : slice_get ts k ≡ Some t
  pub closed : InClosedTriangle m t p

-- each point of a segment that begins in a triangle of a source and misses all solid lines is in a triangle of that source or in
-- an entered one
abbrev pub SightStaysWithin : Type 0
SightStaysWithin = (m : Map) (ts : List Triangle) (ls : List (Option ℕ)) (sources : List ℕ) (e : Entered) (a : ℕ) (p q r : Point) → IsMap m → IsGoodMesh m ts ls → AreEnteredOutOf m ts ls sources e
    → Contains sources a → InLabelled m ts ls p a → MissesSolid m p q → OnSegment p q r → InLabelled m ts ls r a ⊎ InNumbered m ts e.triangles.items r

-- no entered triangle is of a sector that no source sees
abbrev pub UnseenIsNotEntered : Type 0
UnseenIsNotEntered = (m : Map) (ts : List Triangle) (ls : List (Option ℕ)) (sources : List ℕ) (e : Entered) (b : ℕ) → IsMap m → LinesMeetAtEnds m → IsGoodMesh m ts ls → AreEnteredOutOf m ts ls sources e
    → ((a : ℕ) → Contains sources a → ¬ Sees m a b) → (k : ℕ) → Contains e.triangles.items k → ¬ (label_of ls k ≡ Some b)
