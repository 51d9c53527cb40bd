-- The neighbour of a point that comes first on one side of a direction.
use Rattle.std.specs.Prelude.{◌≡◌, ℕ, ◌⊎◌, List, Option, Some, None, pos, ◌≤ℤ◌, ◌<ℤ◌}
use Rattle.sight_names.specs.declared.names.Pt.{Pt}
use Rattle.sight_names.specs.Point.{point_of, turn_at}
use Rattle.sight_names.specs.Map.{Map}
use Rattle.sight_names.specs.Points.{place}
use Rattle.triangulate.specs.declared.incident_segments.segments.Segment.{Segment}
use Rattle.triangulate.specs.IncidentSegments.Neighbours.{IsNeighbour}

-- the point with number c is strictly on the left, or on the right, of the way from p to q
abbrev pub IsLeftOf : Map → Pt → Pt → ℕ → Type 0
IsLeftOf m p q c = pos 0 <ℤ turn_at p q (point_of (place m c))

abbrev pub IsRightOf : Map → Pt → Pt → ℕ → Type 0
IsRightOf m p q c = turn_at p q (point_of (place m c)) <ℤ pos 0

-- a neighbour of a strictly on the left of the direction of b, and no such neighbour is on the right of it
pub record IsFirstLeft (m : Map) (segs : List Segment) (a b c : ℕ) : Type 0 where
  pub neighbour : IsNeighbour segs a c
  pub left : IsLeftOf m (place m a) (place m b) c
  pub first : (x : ℕ) → IsNeighbour segs a x → IsLeftOf m (place m a) (place m b) x → pos 0 ≤ℤ turn_at (place m a) (place m c) (point_of (place m x))

-- a neighbour of a strictly on the right of the direction of b, and no such neighbour is on the left of it
pub record IsFirstRight (m : Map) (segs : List Segment) (a b c : ℕ) : Type 0 where
  pub neighbour : IsNeighbour segs a c
  pub right : IsRightOf m (place m a) (place m b) c
  pub first : (x : ℕ) → IsNeighbour segs a x → IsRightOf m (place m a) (place m b) x → turn_at (place m a) (place m c) (point_of (place m x)) ≤ℤ pos 0

-- the first neighbour of a on the left of the direction of b, None where none is there
abbrev pub IsNextLeft : Map → List Segment → ℕ → ℕ → Option ℕ → Type 0
IsNextLeft m segs a b None = (x : ℕ) → IsNeighbour segs a x → ¬ IsLeftOf m (place m a) (place m b) x
IsNextLeft m segs a b (Some c) = IsFirstLeft m segs a b c

-- the first neighbour of a on the right of the direction of b, None where none is there
abbrev pub IsNextRight : Map → List Segment → ℕ → ℕ → Option ℕ → Type 0
IsNextRight m segs a b None = (x : ℕ) → IsNeighbour segs a x → ¬ IsRightOf m (place m a) (place m b) x
IsNextRight m segs a b (Some c) = IsFirstRight m segs a b c

-- where w is on the left of the way from p to q, some best point is there, and w isn't before it
abbrev pub IsBehindLeft : Map → Pt → Pt → Option ℕ → ℕ → Type 0
IsBehindLeft m p q None w = ¬ IsLeftOf m p q w
IsBehindLeft m p q (Some d) w = IsLeftOf m p q w → pos 0 ≤ℤ turn_at p (place m d) (point_of (place m w))

abbrev pub IsBehindRight : Map → Pt → Pt → Option ℕ → ℕ → Type 0
IsBehindRight m p q None w = ¬ IsRightOf m p q w
IsBehindRight m p q (Some d) w = IsRightOf m p q w → turn_at p (place m d) (point_of (place m w)) ≤ℤ pos 0

-- c is on the left, and before the best point so far
pub record IsBeforeLeft (m : Map) (p q : Pt) (best : Option ℕ) (c : ℕ) : Type 0 where
  pub left : IsLeftOf m p q c
  pub before : (d : ℕ) → best ≡ Some d → turn_at p (place m d) (point_of (place m c)) <ℤ pos 0

pub record IsBeforeRight (m : Map) (p q : Pt) (best : Option ℕ) (c : ℕ) : Type 0 where
  pub right : IsRightOf m p q c
  pub before : (d : ℕ) → best ≡ Some d → pos 0 <ℤ turn_at p (place m d) (point_of (place m c))

-- the best point stays where c isn't before it
abbrev pub IsBestLeft : Map → Pt → Pt → Option ℕ → ℕ → Option ℕ → Type 0
IsBestLeft m p q best c r = ((r ≡ best) × IsBehindLeft m p q best c) ⊎ ((r ≡ Some c) × IsBeforeLeft m p q best c)

abbrev pub IsBestRight : Map → Pt → Pt → Option ℕ → ℕ → Option ℕ → Type 0
IsBestRight m p q best c r = ((r ≡ best) × IsBehindRight m p q best c) ⊎ ((r ≡ Some c) × IsBeforeRight m p q best c)
