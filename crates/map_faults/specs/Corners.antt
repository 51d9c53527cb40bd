-- Where two lines meet, rounded down to whole units.
use Rattle.std.specs.Prelude.{◌≡◌, ℕ, ℤ, pos, ◌+ℤ◌, ◌*ℤ◌, ◌≤ℤ◌, ◌<ℤ◌, Option, Some, MatchOption}
use Rattle.sight_names.specs.declared.names.Pt.{Pt}
use Rattle.sight_names.specs.Point.{Point}
use Rattle.sight_names.specs.Map.{Map, MapLine, line_at}
use Rattle.sight_names.specs.Sound.{IsCommon}
use Rattle.geom_exact.specs.Formulas.{turn_of}

-- the greatest whole numbers that aren't above the point's coordinates
pub record IsRoundedDown (z : Point) (c : Pt) : Type 0 where
  pub x_from : (c.x *ℤ pos z.d) ≤ℤ z.x
  pub x_to : z.x <ℤ ((c.x +ℤ pos 1) *ℤ pos z.d)
  pub y_from : (c.y *ℤ pos z.d) ≤ℤ z.y
  pub y_to : z.y <ℤ ((c.y +ℤ pos 1) *ℤ pos z.d)

-- each common point of the segments p q and r s, rounded down
abbrev pub IsCornerOf : Pt → Pt → Pt → Pt → Pt → Type 0
IsCornerOf p q r s c = (z : Point) → IsCommon p q r s z → IsRoundedDown z c

-- .. of segments that aren't parallel
abbrev pub IsOneCornerOf : Pt → Pt → Pt → Pt → Pt → Type 0
IsOneCornerOf p q r s c = (¬ (turn_of p q r ≡ turn_of p q s)) × IsCornerOf p q r s c

-- so for the lines of these two records; none is told where they are parallel
abbrev pub AreCornersOf : Map → ℕ → ℕ → Option Pt → Type 0
AreCornersOf m i j o = (k l : MapLine) → line_at m i ≡ Some k → line_at m j ≡ Some l
    → MatchOption o (turn_of k.first k.second l.first ≡ turn_of k.first k.second l.second) (IsOneCornerOf k.first k.second l.first l.second)

-- the mean of a and b with these weights, rounded down
pub record IsMeanDown (m n : ℕ) (a b c : ℤ) : Type 0 where
  pub from : (c *ℤ (pos m +ℤ pos n)) ≤ℤ (pos m *ℤ a +ℤ pos n *ℤ b)
  pub to : (pos m *ℤ a +ℤ pos n *ℤ b) <ℤ ((c +ℤ pos 1) *ℤ (pos m +ℤ pos n))
