-- What a cone says of lists of left and of right ends.
use Rattle.std.specs.Prelude.{◌≡◌, ◌⊎◌, ℕ, ◌-◌, ◌<◌, ◌≤◌, List, [], ◌∷◌, ◌++◌, Some, All, length, take, slice_get, pos, ◌≤ℤ◌}
use Rattle.sight_names.specs.declared.limits.TheConstants.{RIGHT_END}
use Rattle.sight_names.specs.declared.names.Pt.{Pt}
use Rattle.sight_names.specs.declared.names.EndAt.{EndAt}
use Rattle.sight_names.specs.declared.names.EndPair.{EndPair}
use Rattle.sight_names.specs.Splitting.{EndPoints, AreBalanced, end_of}
use Rattle.plane_base.specs.Arrows.{Arrow, cross}
use Rattle.geom_exact.specs.declared.extreme_lines.cone.Cone.{Cone}
use Rattle.geom_exact.specs.declared.extreme_lines.cone.Cone.TheVariants.{Ray, Open}
use Rattle.geom_exact.specs.ExtremeLines.Differences.{difference}
use Rattle.geom_exact.specs.ExtremeLines.Spans.{Spans, arrow_of, first_extreme, second_of, end_pair_of}
use Rattle.stab_hull.specs.declared.step.Step.{Step}
use Rattle.stab_hull.specs.declared.step.Step.TheVariants.{Same, Wider, Stuck}

abbrev pub IsAmongEnds : List EndAt → EndAt → Type 0
IsAmongEnds ends e = (m : ℕ) × (slice_get ends m ≡ Some e)

-- one of the ends is at this point
abbrev pub HasPoint : List EndAt → Pt → Type 0
HasPoint ends p = (m : ℕ) × (e : EndAt) × (slice_get ends m ≡ Some e) × (e.at ≡ p)

-- a pair of one of the left ends and one of the right ends
abbrev pub IsPairAmong : List EndAt → List EndAt → EndPair → Type 0
IsPairAmong lefts rights p = IsAmongEnds lefts p.left × IsAmongEnds rights p.right

-- the cone has the difference of each left end and each right end
abbrev pub SpansEnds : List EndAt → List EndAt → Cone → Type 0
SpansEnds lefts rights c = (l r : EndAt) → IsAmongEnds lefts l → IsAmongEnds rights r → Spans c (difference l.at r.at)

-- the extreme lines of a cone are lines from right ends to left ends
pub record IsOfEnds (lefts rights : List EndAt) (c : Cone) : Type 0 where
  pub first : IsPairAmong lefts rights (end_pair_of (first_extreme c))
  pub second : IsPairAmong lefts rights (end_pair_of (second_of c))

-- the cone of these ends
pub record IsConeOfEnds (lefts rights : List EndAt) (c : Cone) : Type 0 where
  pub spans : SpansEnds lefts rights c
  pub ends : IsOfEnds lefts rights c

-- pairs of these ends whose differences have the origin in their convex hull
pub record AreStuckAmong (lefts rights : List EndAt) (pairs : List EndPair) : Type 0 where
  pub ends : All (IsPairAmong lefts rights) pairs
  pub balanced : AreBalanced pairs

-- what a step from this cone to that of these ends gives
abbrev pub IsStepTo : List EndAt → List EndAt → Cone → Step → Type 0
IsStepTo lefts rights c Same = IsConeOfEnds lefts rights c
IsStepTo lefts rights c (Wider d) = IsConeOfEnds lefts rights d
IsStepTo lefts rights c (Stuck pairs) = AreStuckAmong lefts rights pairs

-- the last of the cones is that of the ends
abbrev pub IsTopCone : List EndAt → List EndAt → List Cone → Type 0
IsTopCone lefts rights cones = (c : Cone) × (slice_get cones (length cones - 1) ≡ Some c) × IsConeOfEnds lefts rights c

-- an end has come to the list, but where the list has its point
abbrev pub IsEndAdded : List EndAt → EndAt → List EndAt → Type 0
IsEndAdded old e new = (new ≡ old ++ e ∷ []) ⊎ ((new ≡ old) × HasPoint old e.at)

-- the new list begins with the first n of the old one
abbrev pub KeepsFirst : {X : Type 0} → ℕ → List X → List X → Type 0
KeepsFirst n old new = (take n new ≡ take n old) × (n ≤ length new)

-- a left end of these portals, with its code
pub record IsLeftEnd (es : List EndPoints) (e : EndAt) : Type 0 where
  pub code : e.code < RIGHT_END
  pub end : end_of es e.code ≡ Some e

-- a right end of these portals, with its code
pub record IsRightEnd (es : List EndPoints) (e : EndAt) : Type 0 where
  pub code : RIGHT_END ≤ e.code
  pub end : end_of es e.code ≡ Some e

-- the arrow lies in the angle of the two lines; where all have one direction, it is none
abbrev pub IsInAngle : Cone → Arrow → Type 0
IsInAngle (Ray e) a = (a.x ≡ pos 0) × (a.y ≡ pos 0)
IsInAngle (Open w) a = (pos 0 ≤ℤ cross (arrow_of w.first) a) × (pos 0 ≤ℤ cross a (arrow_of w.second))

-- from one of the left ends this point lies in the angle of the lines, so that no line comes to it before that end
abbrev pub CoversLeft : List EndAt → Cone → Pt → Type 0
CoversLeft lefts c p = (m : ℕ) × (e : EndAt) × (slice_get lefts m ≡ Some e) × IsInAngle c (difference p e.at)

-- the same of a right end
abbrev pub CoversRight : List EndAt → Cone → Pt → Type 0
CoversRight rights c p = (m : ℕ) × (e : EndAt) × (slice_get rights m ≡ Some e) × IsInAngle c (difference e.at p)

-- ends of these portals from which all lie in the angle of the lines, and the cone of these ends
pub record IsHullOf (es : List EndPoints) (lefts rights : List EndAt) (cones : List Cone) : Type 0 where
  pub left_ends : (m : ℕ) (e : EndAt) → slice_get lefts m ≡ Some e → IsLeftEnd es e
  pub right_ends : (m : ℕ) (e : EndAt) → slice_get rights m ≡ Some e → IsRightEnd es e
  pub cone : IsTopCone lefts rights cones
  pub lefts_all : (i : ℕ) (p : EndPoints) → slice_get es i ≡ Some p → CoversLeft lefts cone.0 p.left
  pub rights_all : (i : ℕ) (p : EndPoints) → slice_get es i ≡ Some p → CoversRight rights cone.0 p.right
