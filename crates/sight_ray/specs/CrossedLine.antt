-- Words of the parts of check_ray: the ends of a crossed line by the side of the ray on which they are.
use Rattle.std.specs.Prelude.{◌≡◌, ℕ, if◌then◌else◌, Some, IsTrue, ◌<◌, ℤ, pos, ◌<ℤ◌, ◌≤ℤ◌, ◌⊎◌}
use Rattle.sight_names.specs.declared.names.Pt.{Pt}
use Rattle.sight_names.specs.declared.names.Side.{Side}
use Rattle.sight_names.specs.declared.names.Ray.{Ray}
use Rattle.sight_names.specs.Point.{Point, point_of, OnSegment}
use Rattle.sight_names.specs.Map.{Map, MapLine, line_at}
use Rattle.sight_names.specs.Ray.{NotBehind, ray_value}
use Rattle.geom_exact.specs.Crossings.{IsCrossingOf}
use Rattle.geom_exact.specs.Formulas.{turn_of}
use Rattle.sight_ray.specs.declared.crossed_line.CrossedLine.{CrossedLine}
use Rattle.sight_ray.specs.RayFault.{IsPointBehind}

-- the left end is strictly on the ray's left, the right end strictly on its right
pub record IsCrossedLine (r : Ray) (g : CrossedLine) : Type 0 where
  pub left : pos 0 <ℤ ray_value r (point_of g.left)
  pub right : ray_value r (point_of g.right) <ℤ pos 0

abbrev pub AreOnBothSides : ℤ → ℤ → Type 0
AreOnBothSides a b = (pos 0 <ℤ a) × (b <ℤ pos 0)

-- the crossed line is the segment from p to q, which the ray splits
pub record IsCrossedLineBetween (r : Ray) (p q : Pt) (g : CrossedLine) : Type 0 where
  pub parts : IsCrossedLine r g
  pub left : g.left ≡ (if g.first_left then p else q)
  pub right : g.right ≡ (if g.first_left then q else p)

-- the crossed line is the side's line, which the ray splits
pub record IsCrossedLineOf (m : Map) (r : Ray) (s : Side) (g : CrossedLine) : Type 0 where
  pub line : MapLine
  pub is : line_at m s.line ≡ Some line
  pub crossed_line : IsCrossedLineBetween r line.first line.second g

-- p is where the ray crosses the crossed line
abbrev pub CrossingOfLine : Ray → CrossedLine → Point → Type 0
CrossingOfLine r g p = IsCrossingOf r g.left g.right p

-- the second crossed line isn't before the first
abbrev pub IsForward : Ray → CrossedLine → CrossedLine → Type 0
IsForward r g h = (s t : Point) → CrossingOfLine r g s → CrossingOfLine r h t → NotBehind r s t

-- the segment from p to q has a point of the stretch between the crossed lines
abbrev pub IsHit : Ray → CrossedLine → CrossedLine → Pt → Pt → Type 0
IsHit r g h p q = (s t : Point) → CrossingOfLine r g s → CrossingOfLine r h t → (z : Point) × OnSegment s t z × OnSegment (point_of p) (point_of q) z

-- it has none
abbrev pub IsStretchClear : Ray → CrossedLine → CrossedLine → Pt → Pt → Type 0
IsStretchClear r g h p q = (s t z : Point) → CrossingOfLine r g s → CrossingOfLine r h t → OnSegment s t z → OnSegment (point_of p) (point_of q) z → ⊥

-- the line with this number is solid and has a point of the stretch
pub record IsHitAt (m : Map) (r : Ray) (g h : CrossedLine) (number : ℕ) : Type 0 where
  pub line : MapLine
  pub is : line_at m number ≡ Some line
  pub solid : IsTrue line.solid
  pub hit : IsHit r g h line.first line.second

-- if it is a solid line, it has none
abbrev pub IsClearAt : Map → Ray → CrossedLine → CrossedLine → ℕ → Type 0
IsClearAt m r g h number = (l : MapLine) → line_at m number ≡ Some l → IsTrue l.solid → IsStretchClear r g h l.first l.second

-- no line below this number is solid and has one
abbrev pub AreClearBelow : Map → Ray → CrossedLine → CrossedLine → ℕ → Type 0
AreClearBelow m r g h count = (i : ℕ) → i < count → IsClearAt m r g h i

-- the least such line
pub record IsFirstHit (m : Map) (r : Ray) (g h : CrossedLine) (number : ℕ) : Type 0 where
  pub hit : IsHitAt m r g h number
  pub least : AreClearBelow m r g h number

-- the crossing with the first segment is strictly behind that with the second
abbrev pub AllBehind : Ray → Pt → Pt → Pt → Pt → Type 0
AllBehind r l1 l2 m1 m2 = (z w : Point) → IsCrossingOf r l1 l2 z → IsCrossingOf r m1 m2 w → IsPointBehind r z w

-- it isn't
abbrev pub AllInOrder : Ray → Pt → Pt → Pt → Pt → Type 0
AllInOrder r l1 l2 m1 m2 = (z w : Point) → IsCrossingOf r l1 l2 z → IsCrossingOf r m1 m2 w → NotBehind r z w

-- two points of the ray that are both before the crossing with the crossed line, or not both
abbrev pub AreBeforeLine : CrossedLine → Pt → Pt → Type 0
AreBeforeLine g p q = (turn_of g.left g.right p <ℤ pos 0) × (turn_of g.left g.right q <ℤ pos 0)

abbrev pub ReachesStart : CrossedLine → Pt → Pt → Type 0
ReachesStart g p q = (pos 0 ≤ℤ turn_of g.left g.right p) ⊎ (pos 0 ≤ℤ turn_of g.left g.right q)

-- both behind it, or not both
abbrev pub AreAfter : CrossedLine → Pt → Pt → Type 0
AreAfter g p q = (pos 0 <ℤ turn_of g.left g.right p) × (pos 0 <ℤ turn_of g.left g.right q)

abbrev pub ReachesStop : CrossedLine → Pt → Pt → Type 0
ReachesStop g p q = (turn_of g.left g.right p ≤ℤ pos 0) ⊎ (turn_of g.left g.right q ≤ℤ pos 0)

-- the segment between two points of the ray has a point of the stretch, or none
abbrev pub IsMet : CrossedLine → CrossedLine → Pt → Pt → Type 0
IsMet g h p q = ReachesStart g p q × ReachesStop h p q

abbrev pub IsStretchPassed : CrossedLine → CrossedLine → Pt → Pt → Type 0
IsStretchPassed g h p q = AreBeforeLine g p q ⊎ AreAfter h p q
