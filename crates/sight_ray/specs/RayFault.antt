-- Which condition of a sight ray is the first to fail: the range, the two names, the two splits, the two ways, the
-- order of the crossings, and the solid lines.
use Rattle.std.specs.Prelude.{◌≡◌, ℕ, ◌<◌, Some, None, IsSome, IsTrue, Bool, not, ◌⊎◌, pos, ◌*ℤ◌, ◌<ℤ◌}
use Rattle.sight_names.specs.declared.names.Side.{Side}
use Rattle.sight_names.specs.declared.names.Ray.{Ray}
use Rattle.sight_names.specs.declared.faults.RayFault.{RayFault}
use Rattle.sight_names.specs.declared.faults.RayFault.TheVariants.{Range, BadSide, NotSplit, WrongWay, Backwards, Blocked}
use Rattle.sight_names.specs.Point.{Point, OnSegment}
use Rattle.sight_names.specs.Map.{Map, MapLine, line_at, named}
use Rattle.sight_names.specs.Path.{OnLine, Misses}
use Rattle.sight_names.specs.Ray.{IsInRange, SplitsLine, NotBehind, IsCrossing, along}

-- the ends of the side's line are strictly on different sides of the ray; the first end is on its left if the Bool is true
pub record RaySplitsSide (m : Map) (r : Ray) (s : Side) (first_left : Bool) : Type 0 where
  pub line : MapLine
  pub is : line_at m s.line ≡ Some line
  pub ends : SplitsLine r line first_left

abbrev pub IsSplit : Map → Ray → Side → Type 0
IsSplit m r s = (first_left : Bool) × RaySplitsSide m r s first_left

-- the ray leaves the side first: the first end of its line is on the left if first is a right side
abbrev pub Leaves : Map → Ray → Type 0
Leaves m r = RaySplitsSide m r r.first (not r.first.left)

-- the ray arrives on the side last: the first end of its line is on the left if last is a left side
abbrev pub Arrives : Map → Ray → Type 0
Arrives m r = RaySplitsSide m r r.last r.last.left

-- p is where the ray crosses the side's line
pub record CrossesSide (m : Map) (r : Ray) (s : Side) (p : Point) : Type 0 where
  pub line : MapLine
  pub is : line_at m s.line ≡ Some line
  pub crossing : IsCrossing r line p

-- the ray is in range, and both of its sides name a sector
pub record HasNames (m : Map) (r : Ray) : Type 0 where
  pub range : IsInRange r
  pub from : IsSome (named m r.first)
  pub to : IsSome (named m r.last)

-- and it splits both lines
pub record HasSplits (m : Map) (r : Ray) : Type 0 where
  pub names : HasNames m r
  pub first : IsSplit m r r.first
  pub last : IsSplit m r r.last

-- it leaves first, arrives on last, and crosses their lines at these points
pub record HasCrossings (m : Map) (r : Ray) (start stop : Point) : Type 0 where
  pub names : HasNames m r
  pub leaves : Leaves m r
  pub arrives : Arrives m r
  pub starts : CrossesSide m r r.first start
  pub stops : CrossesSide m r r.last stop

-- p is strictly behind q along the ray
abbrev pub IsPointBehind : Ray → Point → Point → Type 0
IsPointBehind r p q = (along r q *ℤ pos p.d) <ℤ (along r p *ℤ pos q.d)

-- this solid line has a point of the stretch, and no solid line with a smaller record number has one
pub record IsRayBlocked (m : Map) (r : Ray) (number : ℕ) : Type 0 where
  pub start : Point
  pub stop : Point
  pub crossings : HasCrossings m r start stop
  pub forward : NotBehind r start stop
  pub line : MapLine
  pub is : line_at m number ≡ Some line
  pub solid : IsTrue line.solid
  pub point : Point
  pub on_stretch : OnSegment start stop point
  pub on_line : OnLine line point
  pub least : (i : ℕ) → i < number → (l : MapLine) → line_at m i ≡ Some l → IsTrue l.solid → Misses start stop l

-- the first condition that fails
abbrev pub IsRayFault : Map → Ray → RayFault → Type 0
IsRayFault m r Range = ¬ IsInRange r
-- first, then last, names no sector
IsRayFault m r (BadSide side) = IsInRange r × (((side ≡ r.first) × (named m r.first ≡ None)) ⊎ ((side ≡ r.last) × IsSome (named m r.first) × (named m r.last ≡ None)))
-- the ends of first's line, then of last's, aren't strictly on different sides
IsRayFault m r (NotSplit number) = HasNames m r × (((number ≡ r.first.line) × ¬ IsSplit m r r.first) ⊎ ((number ≡ r.last.line) × IsSplit m r r.first × ¬ IsSplit m r r.last))
-- the ray doesn't leave first, then doesn't arrive on last
IsRayFault m r (WrongWay number) = HasSplits m r × (((number ≡ r.first.line) × ¬ Leaves m r) ⊎ ((number ≡ r.last.line) × Leaves m r × ¬ Arrives m r))
-- the crossing with last's line comes strictly before that with first's
IsRayFault m r Backwards = (start stop : Point) × HasCrossings m r start stop × IsPointBehind r start stop
-- the least solid line that has a point of the stretch
IsRayFault m r (Blocked number) = IsRayBlocked m r number
