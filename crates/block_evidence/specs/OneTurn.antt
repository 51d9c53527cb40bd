-- Ends of two extreme lines, and a new end that no line splits from them.
use Rattle.std.specs.Prelude.{◌≡◌, ◌<◌, ◌≤◌, ℤ, pos, ◌≤ℤ◌, ◌<ℤ◌}
use Rattle.sight_names.specs.declared.limits.TheConstants.{RIGHT_END}
use Rattle.sight_names.specs.declared.names.Pt.{Pt}
use Rattle.sight_names.specs.declared.names.EndAt.{EndAt}
use Rattle.sight_names.specs.declared.names.EndPair.{EndPair}
use Rattle.plane_base.specs.Arrows.{cross}
use Rattle.geom_exact.specs.ExtremeLines.Differences.{difference}

-- what the line from a pair's right end to its left end says of a point: above 0 on the line's left
abbrev pub turn_said : EndPair → Pt → ℤ
turn_said p x = cross (difference p.left.at p.right.at) (difference x p.right.at)

-- The pairs of two lines with codes in their ranges, where ends of equal code are equal. The first line has the right end of the
-- second not on its left, and the second has the left end of the first not on its left.
pub record AreLines (first second : EndPair) : Type 0 where
  pub first_left : first.left.code < RIGHT_END
  pub second_left : second.left.code < RIGHT_END
  pub first_right : RIGHT_END ≤ first.right.code
  pub second_right : RIGHT_END ≤ second.right.code
  pub same_left : first.left.code ≡ second.left.code → first.left ≡ second.left
  pub same_right : first.right.code ≡ second.right.code → first.right ≡ second.right
  pub right : turn_said first second.right.at ≤ℤ pos 0
  pub left : turn_said second first.left.at ≤ℤ pos 0

-- A right end that is later than those of the lines, and that can't be split from the left end of the first: it isn't right of the
-- first line, it is left of the second, and no less so than that left end.
pub record BarsRight (first second : EndPair) (new : EndAt) : Type 0 where
  pub later : first.right.code < new.code
  pub later_too : second.right.code < new.code
  pub beyond_first : pos 0 ≤ℤ turn_said first new.at
  pub beyond_second : turn_said second new.at <ℤ pos 0
  pub far : turn_said second new.at ≤ℤ turn_said second first.left.at

-- the same of a left end and the right end of the second line
pub record BarsLeft (first second : EndPair) (new : EndAt) : Type 0 where
  pub coded : new.code < RIGHT_END
  pub later : first.left.code < new.code
  pub later_too : second.left.code < new.code
  pub beyond_second : pos 0 ≤ℤ turn_said second new.at
  pub beyond_first : turn_said first new.at <ℤ pos 0
  pub far : turn_said first new.at ≤ℤ turn_said first second.right.at
