-- Lines that split the ends of portals, over points.
use Rattle.std.specs.Prelude.{◌≡◌, ℕ, ◌-◌, ◌<◌, ◌≤◌, List, ◌∷◌, Option, Some, option_map, slice_get, length, sum, nat_lt, if◌then◌else◌, ℤ, pos, ◌+ℤ◌, ◌-ℤ◌, ◌*ℤ◌, ◌<ℤ◌}
use Rattle.std.specs.List.{AllByRecursion}
use Rattle.sight_names.specs.declared.limits.TheConstants.{RIGHT_END}
use Rattle.sight_names.specs.declared.names.Pt.{Pt}
use Rattle.sight_names.specs.declared.names.EndAt.{EndAt}
use Rattle.sight_names.specs.declared.names.EndPair.{EndPair}
use Rattle.sight_names.specs.Point.{point_of, value_at}

-- the left and the right end of a portal, as seen by one who walks through it
pub record EndPoints : Type 0 where
  pub left : Pt
  pub right : Pt

-- a * x + b * y + c is above 0 at the left end and below 0 at the right end
abbrev pub IsParted : ℤ → ℤ → ℤ → EndPoints → Type 0
IsParted a b c e = (pos 0 <ℤ value_at a b c (point_of e.left)) × (value_at a b c (point_of e.right) <ℤ pos 0)

-- a whole line has all left ends strictly on its left and all right ends strictly on its right
abbrev pub SplitsEnds : List EndPoints → ℤ → ℤ → ℤ → Type 0
SplitsEnds es a b c = AllByRecursion (IsParted a b c) es

-- some whole line splits them
abbrev pub IsSplittable : List EndPoints → Type 0
IsSplittable es = (a b c : ℤ) × SplitsEnds es a b c

-- the end with this code: the portal's place, plus 32,768 for a right end
abbrev pub end_of : List EndPoints → ℕ → Option EndAt
end_of es code = option_map (λ (p : Pt). record { code = code; at = p }) (if nat_lt code RIGHT_END then option_map (λ (e : EndPoints). e.left) (slice_get es code) else option_map (λ (e : EndPoints). e.right) (slice_get es (code - RIGHT_END)))

-- a pair of a left and a right end of these portals, with their codes
pub record IsEndPairOf (es : List EndPoints) (p : EndPair) : Type 0 where
  pub left_code : p.left.code < RIGHT_END
  pub right_code : RIGHT_END ≤ p.right.code
  pub left : end_of es p.left.code ≡ Some p.left
  pub right : end_of es p.right.code ≡ Some p.right

-- ---- differences, left minus right

abbrev pub across : EndPair → ℤ
across p = p.left.at.x -ℤ p.right.at.x

abbrev pub up : EndPair → ℤ
up p = p.left.at.y -ℤ p.right.at.y

abbrev pub weighed : (EndPair → ℤ) → List ℕ → List EndPair → ℤ
weighed f (w ∷ ws) (p ∷ ps) = pos w *ℤ f p +ℤ weighed f ws ps
weighed f _ _ = pos 0

-- the origin is a weighted mean of the pairs' differences, with whole weights that aren't all 0: it is in their convex hull
pub record AreBalanced (pairs : List EndPair) : Type 0 where
  pub weights : List ℕ
  pub one_each : length weights ≡ length pairs
  pub weighty : 0 < sum weights
  pub x : weighed across weights pairs ≡ pos 0
  pub y : weighed up weights pairs ≡ pos 0
