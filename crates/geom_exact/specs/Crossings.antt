-- The order of two crossings along a ray.
use Rattle.std.specs.Prelude.{pos, ◌*ℤ◌, ◌≡◌}
use Rattle.std.specs.Ordering.{int_cmp}
use Rattle.std.specs.declared.cmp.Ordering.{Ordering}
use Rattle.sight_names.specs.declared.names.Pt.{Pt}
use Rattle.sight_names.specs.declared.names.Ray.{Ray}
use Rattle.sight_names.specs.Point.{Point, point_of, OnSegment}
use Rattle.sight_names.specs.Ray.{ray_value, along}

-- where the ray's whole line crosses the segment from p to q
abbrev pub IsCrossingOf : Ray → Pt → Pt → Point → Type 0
IsCrossingOf ray p q z = OnSegment (point_of p) (point_of q) z × (ray_value ray z ≡ pos 0)

-- there is such a point
abbrev pub IsSegmentCrossed : Ray → Pt → Pt → Type 0
IsSegmentCrossed ray p q = (z : Point) × IsCrossingOf ray p q z

-- the answer is the order of b * x - a * y at the crossings, whichever points stand for them
abbrev pub IsCrossOrder : Ray → Pt → Pt → Pt → Pt → Ordering → Type 0
IsCrossOrder ray l1 l2 m1 m2 order = (z w : Point) → IsCrossingOf ray l1 l2 z → IsCrossingOf ray m1 m2 w → order ≡ int_cmp (along ray z *ℤ pos w.d) (along ray w *ℤ pos z.d)
