-- Pairs of a left and a right end of a list of ends, and cones of them.
use Rattle.std.specs.Prelude.{◌≡◌, ℕ, ◌<◌, ◌≤◌, List, Some, slice_get}
use Rattle.sight_names.specs.declared.limits.TheConstants.{RIGHT_END}
use Rattle.sight_names.specs.declared.names.EndAt.{EndAt}
use Rattle.plane_base.specs.Arrows.{Arrow}
use Rattle.geom_exact.specs.declared.extreme_lines.cone.Cone.{Cone}
use Rattle.geom_exact.specs.ExtremeLines.Differences.{difference}
use Rattle.geom_exact.specs.ExtremeLines.Spans.{Spans, first_extreme, second_of}

-- a left end of the list
pub record IsLeftIn (ends : List EndAt) (e : EndAt) : Type 0 where
  pub code : e.code < RIGHT_END
  pub place : ℕ
  pub is : slice_get ends place ≡ Some e

-- a right end of the list
pub record IsRightIn (ends : List EndAt) (e : EndAt) : Type 0 where
  pub code : RIGHT_END ≤ e.code
  pub place : ℕ
  pub is : slice_get ends place ≡ Some e

-- the extreme lines of the cone are lines between ends of the list
pub record IsConeIn (ends : List EndAt) (c : Cone) : Type 0 where
  pub first_left : IsLeftIn ends (first_extreme c).left
  pub first_right : IsRightIn ends (first_extreme c).right
  pub second_left : IsLeftIn ends (second_of c).left
  pub second_right : IsRightIn ends (second_of c).right

-- what the one cone has, the other has too
abbrev pub Keeps : Cone → Cone → Type 0
Keeps c d = (a : Arrow) → Spans c a → Spans d a

-- the cone has the difference of this left end and the end at place j, if that is a right one
abbrev pub HasAt : List EndAt → EndAt → ℕ → Cone → Type 0
HasAt ends left j c = (e : EndAt) → slice_get ends j ≡ Some e → RIGHT_END ≤ e.code → Spans c (difference left.at e.at)

-- the cone has the differences of the end at place i, if that is a left one, and each right end
abbrev pub HasAllAt : List EndAt → ℕ → Cone → Type 0
HasAllAt ends i c = (d : EndAt) → slice_get ends i ≡ Some d → d.code < RIGHT_END → (j : ℕ) → HasAt ends d j c
