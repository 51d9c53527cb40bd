-- The numbers that decide where points, segments and rays stand to each other. Each is unfolded only where an identity is proved.
use Rattle.std.specs.Prelude.{ℤ, pos, ◌+ℤ◌, ◌-ℤ◌, ◌*ℤ◌, ◌<ℤ◌, ◌⊎◌}
use Rattle.sight_names.specs.declared.names.Pt.{Pt}
use Rattle.sight_names.specs.declared.names.Ray.{Ray}
use Rattle.sight_names.specs.Point.{point_of}
use Rattle.sight_names.specs.Ray.{ray_value}

-- twice the signed area of the triangle a, b, c: above 0 where they stand counterclockwise
unfoldable pub turn_of : Pt → Pt → Pt → ℤ
turn_of a b c = (b.x -ℤ a.x) *ℤ (c.y -ℤ a.y) -ℤ (b.y -ℤ a.y) *ℤ (c.x -ℤ a.x)

-- how far v is from p in the direction from p to q, times the distance of p and q
unfoldable pub reach_of : Pt → Pt → Pt → ℤ
reach_of p q v = (q.x -ℤ p.x) *ℤ (v.x -ℤ p.x) +ℤ (q.y -ℤ p.y) *ℤ (v.y -ℤ p.y)

-- a * x + b * y + c at the point: above 0 on the ray's left, below 0 on its right
unfoldable pub side_value : Ray → Pt → ℤ
side_value ray p = ray_value ray (point_of p)

-- both numbers are above 0, or both are below
abbrev pub AreOnOneSide : ℤ → ℤ → Type 0
AreOnOneSide a b = ((pos 0 <ℤ a) × (pos 0 <ℤ b)) ⊎ ((a <ℤ pos 0) × (b <ℤ pos 0))

-- one number is above 0 and the other below
abbrev pub AreOnTwoSides : ℤ → ℤ → Type 0
AreOnTwoSides a b = ((pos 0 <ℤ a) × (b <ℤ pos 0)) ⊎ ((a <ℤ pos 0) × (pos 0 <ℤ b))
