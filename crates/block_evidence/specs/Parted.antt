-- A line that parts left ends from right ends.
use Rattle.std.specs.Prelude.{◌<◌, ◌≤◌, List, ℤ, pos, ◌<ℤ◌}
use Rattle.std.specs.List.{AllByRecursion}
use Rattle.sight_names.specs.declared.limits.TheConstants.{RIGHT_END}
use Rattle.sight_names.specs.declared.names.EndAt.{EndAt}
use Rattle.sight_names.specs.Point.{point_of, value_at}

-- a left end is strictly on the left of the line, a right end strictly on its right
pub record PartsEnd (a b c : ℤ) (e : EndAt) : Type 0 where
  pub left : e.code < RIGHT_END → pos 0 <ℤ value_at a b c (point_of e.at)
  pub right : RIGHT_END ≤ e.code → value_at a b c (point_of e.at) <ℤ pos 0

abbrev pub PartsEnds : List EndAt → ℤ → ℤ → ℤ → Type 0
PartsEnds ends a b c = AllByRecursion (PartsEnd a b c) ends

-- some whole line parts them
abbrev pub AreEndsParted : List EndAt → Type 0
AreEndsParted ends = (a b c : ℤ) × PartsEnds ends a b c
