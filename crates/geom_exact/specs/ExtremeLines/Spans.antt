-- What lies between two extreme lines.
use Rattle.std.specs.Prelude.{◌≡◌, ◌⊎◌, ◌≤◌, ◌^◌, List, [], ◌∷◌, ℤ, pos, ◌-ℤ◌, ◌<ℤ◌, nat_abs}
use Rattle.sight_names.specs.declared.names.Pt.{Pt}
use Rattle.sight_names.specs.declared.names.EndAt.{EndAt}
use Rattle.sight_names.specs.declared.names.EndPair.{EndPair}
use Rattle.plane_base.specs.Arrows.{Arrow, cross, IsOnRay, IsArrowBetween}
use Rattle.sight_names.specs.Point.{point_of, value_at}
use Rattle.geom_exact.specs.ExtremeLines.Differences.{difference}
use Rattle.geom_exact.specs.declared.extreme_lines.extreme.Extreme.{Extreme}
use Rattle.geom_exact.specs.declared.extreme_lines.wedge.Wedge.{Wedge}
use Rattle.geom_exact.specs.declared.extreme_lines.cone.Cone.{Cone}
use Rattle.geom_exact.specs.declared.extreme_lines.cone.Cone.TheVariants.{Ray, Open}

-- from its right end to its left end
abbrev pub arrow_of : Extreme → Arrow
arrow_of e = difference e.left.at e.right.at

-- twice the signed area of the triangle of the right end, the left end and the point
abbrev pub form_at : Extreme → Pt → ℤ
form_at e p = cross (arrow_of e) (difference p e.right.at)

abbrev pub end_pair_of : Extreme → EndPair
end_pair_of e = record { left = e.left; right = e.right }

-- the most clockwise line
abbrev pub first_extreme : Cone → Extreme
first_extreme (Ray e) = e
first_extreme (Open w) = w.first

-- the most counterclockwise line
abbrev pub second_of : Cone → Extreme
second_of (Ray e) = e
second_of (Open w) = w.second

-- the arrow lies in the cone, and where it lies on an extreme line it isn't shorter than that line's own
abbrev pub Spans : Cone → Arrow → Type 0
Spans (Ray e) a = IsOnRay (arrow_of e) a
Spans (Open w) a = IsArrowBetween (arrow_of w.first) (arrow_of w.second) a

-- the second cone has all that the first one has, and the difference of these ends
pub record IsWidened (old : Cone) (left right : EndAt) (new : Cone) : Type 0 where
  pub keeps : (a : Arrow) → Spans old a → Spans new a
  pub has : Spans new (difference left.at right.at)
  pub first : (end_pair_of (first_extreme new) ≡ end_pair_of (first_extreme old)) ⊎ (end_pair_of (first_extreme new) ≡ record { left = left; right = right })
  pub second : (end_pair_of (second_of new) ≡ end_pair_of (second_of old)) ⊎ (end_pair_of (second_of new) ≡ record { left = left; right = right })

-- the pairs of the extreme lines, and a third one
abbrev pub three_pairs : Cone → EndAt → EndAt → List EndPair
three_pairs cone left right = end_pair_of (first_extreme cone) ∷ end_pair_of (second_of cone) ∷ record { left = left; right = right } ∷ []

-- what both lines of a wedge say of a point, on the left of both above 0
abbrev pub middle_at : Wedge → Pt → ℤ
middle_at w p = cross (arrow_of w.first) (difference p w.first.right.at) -ℤ cross (arrow_of w.second) (difference p w.second.right.at)

-- a line has a left end strictly on its left where the cone has the differences of that end and the extreme right
-- ends, and so for a right end on its right; it has the range of rays
pub record IsCutOf (cone : Cone) (a b c : ℤ) : Type 0 where
  pub left : (p : Pt) → Spans cone (difference p (first_extreme cone).right.at) → Spans cone (difference p (second_of cone).right.at) → pos 0 <ℤ value_at a b c (point_of p)
  pub right : (p : Pt) → Spans cone (difference (first_extreme cone).left.at p) → Spans cone (difference (second_of cone).left.at p) → value_at a b c (point_of p) <ℤ pos 0
  pub a_in : nat_abs a ≤ 2 ^ 30
  pub b_in : nat_abs b ≤ 2 ^ 30
  pub c_in : nat_abs c ≤ 2 ^ 57
