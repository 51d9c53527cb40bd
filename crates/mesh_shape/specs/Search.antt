-- The least number, side or pair against a fact, or that it holds of all.
use Rattle.std.specs.Prelude.{◌≡◌, ℕ, ◌<◌, ◌≤◌, Option, Some, None, List, length, Bool, true, false, ◌≤ℤ◌}
use Rattle.sight_names.specs.declared.names.Side.{Side}
use Rattle.sight_names.specs.declared.names.Triangle.{Triangle}
use Rattle.sight_names.specs.declared.plan.Line.{Line}
use Rattle.geom_exact.specs.declared.line_spans.Span.{Span}
use Rattle.sight_names.specs.Point.{point_of}
use Rattle.sight_names.specs.Map.{Map, MapLine, line_at}
use Rattle.sight_names.specs.Points.{Edge, points_of, place}
use Rattle.sight_names.specs.Mesh.{HasEdge, InsideTriangle, MeetsFairly, label_of, side_edge, triangle_at}
use Rattle.mesh_shape.specs.Faults.{FitsAt, IsFirstAgainst, IsFirstSideAgainst, IsFirstPairAgainst}

abbrev pub IsSearch : (ℕ → Type 0) → Option ℕ → Type 0
IsSearch P None = (k : ℕ) → P k
IsSearch P (Some k) = IsFirstAgainst P k

abbrev pub IsSideSearch : (Side → Type 0) → Option Side → Type 0
IsSideSearch P None = (s : Side) → P s
IsSideSearch P (Some s) = IsFirstSideAgainst P s

abbrev pub IsPairSearch : (ℕ → ℕ → Type 0) → Option (ℕ × ℕ) → Type 0
IsPairSearch P None = (k i : ℕ) → P k i
IsPairSearch P (Some k) = IsFirstPairAgainst P k.0 k.1

-- the triangle at this directed edge fits a side with this name, or one that names none
abbrev pub IsFitting : List Triangle → List (Option ℕ) → Edge → Option ℕ → Type 0
IsFitting ts ls e (Some a) = (k : ℕ) × (triangle_at ts e ≡ Some k) × (label_of ls k ≡ Some a)
IsFitting ts ls e None = (k : ℕ) → triangle_at ts e ≡ Some k → label_of ls k ≡ None

-- each edge of the triangle meets the line at ends of both alone, or is the same segment
abbrev pub IsMetFairly : Map → Triangle → MapLine → Type 0
IsMetFairly m t l = (e : Edge) → HasEdge t e → MeetsFairly m e l

-- the same, where there is such a line record
abbrev pub IsLineMetFairly : Map → Triangle → ℕ → Type 0
IsLineMetFairly m t i = (l : MapLine) → line_at m i ≡ Some l → IsMetFairly m t l

-- no such point, or it isn't strictly inside
abbrev pub IsOutsideOf : Map → Triangle → ℕ → Type 0
IsOutsideOf m t k = k < length (points_of m) → ¬ InsideTriangle m t (point_of (place m k))

-- the triangle's last corners lie in the span by number, and all corners by y
pub record IsBand (m : Map) (t : Triangle) (b : Span) : Type 0 where
  pub second : t.q ≤ b.greatest
  pub third : t.r ≤ b.greatest
  pub low_p : b.low ≤ℤ (place m t.p).y
  pub low_q : b.low ≤ℤ (place m t.q).y
  pub low_r : b.low ≤ℤ (place m t.r).y
  pub high_p : (place m t.p).y ≤ℤ b.high
  pub high_q : (place m t.q).y ≤ℤ b.high
  pub high_r : (place m t.r).y ≤ℤ b.high

-- both a and b are before p, the least of p, q and r
abbrev pub AreBeforeLeast : ℕ → ℕ → ℕ → ℕ → ℕ → Type 0
AreBeforeLeast a b p q r = (a < p) × (b < p)

-- both a and b are behind p, q and r
abbrev pub AreBehind : ℕ → ℕ → ℕ → ℕ → ℕ → Type 0
AreBehind a b p q r = (p < a) × (q < a) × (r < a) × (p < b) × (q < b) × (r < b)

-- the edge is the line of this record, in the one direction or the other
abbrev pub IsEdgeOf : Map → Edge → ℕ → Type 0
IsEdgeOf m e i = (l : MapLine) × (left : Bool) × (line_at m i ≡ Some l) × (e ≡ side_edge m l left)

-- the first side of the record that its triangle doesn't fit
abbrev pub IsUnfitSide : Map → List Triangle → List (Option ℕ) → ℕ → Option Bool → Type 0
IsUnfitSide m ts ls i None = (left : Bool) → FitsAt m ts ls (record { line = i; left = left })
IsUnfitSide m ts ls i (Some left) = ¬ FitsAt m ts ls (record { line = i; left = left }) × (left ≡ true → FitsAt m ts ls (record { line = i; left = false }))

-- the first side of the line that its triangle doesn't fit: right sides go from the second end to the first
abbrev pub IsUnfitLine : List Triangle → List (Option ℕ) → Line → Option Bool → Type 0
IsUnfitLine ts ls l None = IsFitting ts ls (record { from = l.b; to = l.a }) l.right × IsFitting ts ls (record { from = l.a; to = l.b }) l.left
IsUnfitLine ts ls l (Some true) = ¬ IsFitting ts ls (record { from = l.a; to = l.b }) l.left × IsFitting ts ls (record { from = l.b; to = l.a }) l.right
IsUnfitLine ts ls l (Some false) = ¬ IsFitting ts ls (record { from = l.b; to = l.a }) l.right
