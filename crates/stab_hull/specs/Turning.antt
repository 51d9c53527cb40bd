-- What a new end does to two extreme lines.
use Rattle.std.specs.Prelude.{◌≡◌, ◌-◌, List, Some, length, slice_get, pos, ◌<ℤ◌, ◌≤ℤ◌}
use Rattle.sight_names.specs.declared.names.EndAt.{EndAt}
use Rattle.block_evidence.specs.OneTurn.{BarsRight, BarsLeft}
use Rattle.block_evidence.specs.Picked.{Picks}
use Rattle.geom_exact.specs.declared.extreme_lines.cone.Cone.{Cone}
use Rattle.geom_exact.specs.declared.extreme_lines.cone.Cone.TheVariants.{Open}
use Rattle.geom_exact.specs.declared.extreme_lines.wedge.Wedge.{Wedge}
use Rattle.geom_exact.specs.ExtremeLines.Spans.{form_at, end_pair_of}
use Rattle.stab_hull.specs.Barred.{ends_and}
use Rattle.stab_hull.specs.Stacks.{IsConeOfEnds}
use Rattle.stab_hull.specs.declared.turning.Turn.{Turn}
use Rattle.stab_hull.specs.declared.turning.Turn.TheVariants.{Covered, Same, Moves, Stuck, Unseen}

-- of a right end: in the angle of the lines before the right end of the first; right of both; right of the first; stuck, as evidence shows; or not told
abbrev pub IsRightTurn : Wedge → EndAt → Turn → Type 0
IsRightTurn w new Covered = (form_at w.first new.at <ℤ pos 0) × (form_at w.second w.first.right.at ≤ℤ form_at w.second new.at)
IsRightTurn w new Same = (form_at w.first new.at <ℤ pos 0) × (pos 0 <ℤ form_at w.second new.at)
IsRightTurn w new Moves = form_at w.first new.at <ℤ pos 0
IsRightTurn w new (Stuck e) = BarsRight (end_pair_of w.first) (end_pair_of w.second) new × Picks (ends_and w new) e
IsRightTurn w new Unseen = Unit {0}

-- of a left end, the other way round
abbrev pub IsLeftTurn : Wedge → EndAt → Turn → Type 0
IsLeftTurn w new Covered = (form_at w.second new.at <ℤ pos 0) × (form_at w.first w.second.left.at ≤ℤ form_at w.first new.at)
IsLeftTurn w new Same = (pos 0 <ℤ form_at w.first new.at) × (form_at w.second new.at <ℤ pos 0)
IsLeftTurn w new Moves = form_at w.second new.at <ℤ pos 0
IsLeftTurn w new (Stuck e) = BarsLeft (end_pair_of w.first) (end_pair_of w.second) new × Picks (ends_and w new) e
IsLeftTurn w new Unseen = Unit {0}

-- the last of the cones has two lines, and the new right end is right of the first one
pub record MovesRight (lefts : List EndAt) (cones : List Cone) (new : EndAt) : Type 0 where
  pub wedge : Wedge
  pub last : slice_get cones (length cones - 1) ≡ Some (Open wedge)
  pub rights : List EndAt
  pub cone : IsConeOfEnds lefts rights (Open wedge)
  pub beyond : form_at wedge.first new.at <ℤ pos 0

-- and the new left end is right of the second one
pub record MovesLeft (rights : List EndAt) (cones : List Cone) (new : EndAt) : Type 0 where
  pub wedge : Wedge
  pub last : slice_get cones (length cones - 1) ≡ Some (Open wedge)
  pub lefts : List EndAt
  pub cone : IsConeOfEnds lefts rights (Open wedge)
  pub beyond : form_at wedge.second new.at <ℤ pos 0
