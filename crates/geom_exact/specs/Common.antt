-- What the segments p q and r s have in common, by their points.
use Rattle.std.specs.Prelude.{pos, ◌-ℤ◌, ◌<ℤ◌, ◌≡◌, ◌⊎◌}
use Rattle.sight_names.specs.declared.names.Pt.{Pt}
use Rattle.sight_names.specs.Point.{Point, SamePoint}
use Rattle.sight_names.specs.Sound.{IsCommon, IsLineEnd}
use Rattle.geom_exact.specs.declared.Relation.{Relation}
use Rattle.geom_exact.specs.declared.Relation.TheVariants.{Apart, Overlap, Ends, Touch, Cross}
use Rattle.geom_exact.specs.Formulas.{turn_of, reach_of}

-- u is the one common point
pub record IsOnlyCommon (p q r s : Pt) (u : Point) : Type 0 where
  pub common : IsCommon p q r s u
  pub only : (v : Point) → IsCommon p q r s v → SamePoint v u

abbrev pub IsRelation : Pt → Pt → Pt → Pt → Relation → Type 0
-- no common point
IsRelation p q r s Apart = (u : Point) → ¬ IsCommon p q r s u
-- more than one
IsRelation p q r s Overlap = (u v : Point) × IsCommon p q r s u × IsCommon p q r s v × ¬ SamePoint u v
-- one, an end of both
IsRelation p q r s Ends = (u : Point) × IsOnlyCommon p q r s u × IsLineEnd p q u × IsLineEnd r s u
-- one, an end of just one
IsRelation p q r s Touch = (u : Point) × IsOnlyCommon p q r s u × ((IsLineEnd p q u × ¬ IsLineEnd r s u) ⊎ (¬ IsLineEnd p q u × IsLineEnd r s u))
-- one, an end of neither
IsRelation p q r s Cross = (u : Point) × IsOnlyCommon p q r s u × ¬ IsLineEnd p q u × ¬ IsLineEnd r s u

-- two segments of some length on one line, the second going the way of the first
pub record AreLaid (p q r s : Pt) : Type 0 where
  pub first_long : pos 0 <ℤ reach_of p q q
  pub second_long : pos 0 <ℤ reach_of r s s
  pub near : turn_of p q r ≡ pos 0
  pub far : turn_of p q s ≡ pos 0
  pub rising : reach_of p q r <ℤ reach_of p q s

-- u is a common point, and the lines through the segments aren't parallel
pub record IsMeeting (p q r s : Pt) (u : Point) : Type 0 where
  pub crossing : ¬ (turn_of p q r -ℤ turn_of p q s ≡ pos 0)
  pub common : IsCommon p q r s u

-- there is such a point
abbrev pub DoMeet : Pt → Pt → Pt → Pt → Type 0
DoMeet p q r s = (u : Point) × IsMeeting p q r s u
