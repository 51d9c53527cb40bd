-- Arrows of the plane, and the angle between two of them.
use Rattle.std.specs.Prelude.{◌≡◌, ℤ, pos, ◌+ℤ◌, ◌-ℤ◌, ◌*ℤ◌, ◌≤ℤ◌}

pub record Arrow : Type 0 where
  pub x : ℤ
  pub y : ℤ

-- above 0 where v is counterclockwise of u
unfoldable pub cross : Arrow → Arrow → ℤ
cross u v = u.x *ℤ v.y -ℤ u.y *ℤ v.x

unfoldable pub dot : Arrow → Arrow → ℤ
dot u v = u.x *ℤ v.x +ℤ u.y *ℤ v.y

-- e has the direction of d and isn't shorter
pub record IsOnRay (d e : Arrow) : Type 0 where
  pub level : cross d e ≡ pos 0
  pub far : dot d d ≤ℤ dot d e

-- e lies from d counterclockwise to f, and where it has the direction of one of the two it isn't shorter
pub record IsArrowBetween (d f e : Arrow) : Type 0 where
  pub after : pos 0 ≤ℤ cross d e
  pub before : pos 0 ≤ℤ cross e f
  pub far_after : cross d e ≡ pos 0 → dot d d ≤ℤ dot d e
  pub far_before : cross e f ≡ pos 0 → dot f f ≤ℤ dot f e

-- from q to p, where both are given from one origin
abbrev pub arrow_difference : Arrow → Arrow → Arrow
arrow_difference p q = record { x = p.x -ℤ q.x; y = p.y -ℤ q.y }
