-- What a cone says of a list of portals.
use Rattle.std.specs.Prelude.{◌≡◌, ℕ, List, [], ◌∷◌, ◌++◌, Some, All, slice_get, map}
use Rattle.sight_names.specs.declared.names.EndAt.{EndAt}
use Rattle.sight_names.specs.declared.names.EndPair.{EndPair}
use Rattle.sight_names.specs.Splitting.{EndPoints, IsEndPairOf, AreBalanced}
use Rattle.geom_exact.specs.declared.extreme_lines.cone.Cone.{Cone}
use Rattle.geom_exact.specs.ExtremeLines.Differences.{difference}
use Rattle.geom_exact.specs.ExtremeLines.Spans.{Spans, first_extreme, second_of, end_pair_of}
use Rattle.stab_hull.specs.declared.frame.Frame.{Frame}

abbrev pub ends_of_frame : Frame → EndPoints
ends_of_frame f = record { left = f.left; right = f.right }

abbrev pub portals_of : List Frame → List EndPoints
portals_of fs = map ends_of_frame fs

-- the portals, and one more with these ends
abbrev pub with_ends : List EndPoints → EndAt → EndAt → List EndPoints
with_ends es left right = es ++ record { left = left.at; right = right.at } ∷ []

-- the cone has the difference of each left end and each right end
abbrev pub SpansAll : List EndPoints → Cone → Type 0
SpansAll es c = (i j : ℕ) (p q : EndPoints) → slice_get es i ≡ Some p → slice_get es j ≡ Some q → Spans c (difference p.left q.right)

-- the extreme lines of a cone are lines between ends of these portals
pub record HasPairsOf (es : List EndPoints) (c : Cone) : Type 0 where
  pub first : IsEndPairOf es (end_pair_of (first_extreme c))
  pub second : IsEndPairOf es (end_pair_of (second_of c))

-- the cone of these portals
pub record IsConeOf (es : List EndPoints) (c : Cone) : Type 0 where
  pub spans : SpansAll es c
  pub pairs : HasPairsOf es c

-- pairs of ends of these portals whose differences have the origin in their convex hull
pub record ShowsNoLine (es : List EndPoints) (pairs : List EndPair) : Type 0 where
  pub ends : All (IsEndPairOf es) pairs
  pub balanced : AreBalanced pairs
