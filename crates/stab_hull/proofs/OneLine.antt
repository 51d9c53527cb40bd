-- One extreme line alone can change by an end that lies beyond the other one.
use Rattle.std.proofs.Common.{◌≡◌, ℕ, ◌≤◌, ◌^◌, List, Some, ℤ, nat_abs, pos, ◌-ℤ◌, ◌≤ℤ◌, ◌<ℤ◌, sym, ap₂, ◌∙◌, arith, subst, FitsSigned, w64, to_z, of_z, to_z-of_z}
use Rattle.std.specs.Prelude.{slice_get}
use Rattle.std.proofs.lemmas.Int.{ints}
use Rattle.sight_names.specs.declared.names.Pt.{Pt}
use Rattle.sight_names.specs.declared.names.EndAt.{EndAt}
use Rattle.plane_base.specs.Arrows.{cross}
use Rattle.plane_base.proofs.Middle.{cross_by}
use Rattle.plane_base.proofs.Turns.{turned, self}
use Rattle.geom_exact.specs.declared.extreme_lines.extreme.Extreme.{Extreme}
use Rattle.geom_exact.specs.declared.extreme_lines.wedge.Wedge.{Wedge}
use Rattle.geom_exact.specs.declared.extreme_lines.cone.Cone.TheVariants.{Open}
use Rattle.geom_exact.specs.ExtremeLines.Differences.{arrow_to, difference}
use Rattle.geom_exact.specs.ExtremeLines.Spans.{arrow_of, form_at, Spans}
use Rattle.stab_hull.specs.Stacks.{IsConeOfEnds}
use Rattle.stab_hull.proofs.StepLemmas.{Before, IsLeftPart, IsRightPart}

-- its turn is the difference of its values
pub turn_is : (e : Extreme) (l r : Pt) → cross (arrow_of e) (difference l r) ≡ form_at e l -ℤ form_at e r
turn_is e l r = cross_by (arrow_of e) (arrow_to l) (arrow_to r) (arrow_to e.right.at)

pub form_left : (e : Extreme) → form_at e e.left.at ≡ pos 0
form_left e = self (arrow_of e)

pub form_right : (e : Extreme) → form_at e e.right.at ≡ pos 0
form_right e = let t = cross_by (arrow_of e) (arrow_to e.right.at) (arrow_to e.right.at) (arrow_to e.right.at) in omega (arith, ints)

-- a value that was kept in a variable
pub held : (v : ℤ) → nat_abs v ≤ 2 ^ 53 → to_z w64 (of_z w64 v) ≡ v
held v h = to_z-of_z (fits v h)
  where
    fits : (v : ℤ) → nat_abs v ≤ 2 ^ 53 → FitsSigned w64 v
    fits v h = omega (arith, ints)

-- the turn of two ends by values that were kept
module _ (e : Extreme) (l r : Pt) (u v : ℤ) (h : u ≡ form_at e l) (k : v ≡ form_at e r) (low : nat_abs u ≤ 2 ^ 53) (few : nat_abs v ≤ 2 ^ 53) where
  apart : to_z w64 (of_z w64 (u -ℤ v)) ≡ cross (arrow_of e) (difference l r)
  apart = to_z-of_z (fits u v low few) ∙ ap₂ (λ (x y : ℤ). x -ℤ y) h k ∙ sym (turn_is e l r)
    where
      fits : (u v : ℤ) → nat_abs u ≤ 2 ^ 53 → nat_abs v ≤ 2 ^ 53 → FitsSigned w64 (u -ℤ v)
      fits u v a b = omega (arith, ints)

  pub turn_of_first : to_z w64 (of_z w64 (u -ℤ to_z w64 (of_z w64 v))) ≡ cross (arrow_of e) (difference l r)
  turn_of_first = subst (λ (z : ℤ). to_z w64 (of_z w64 (u -ℤ z)) ≡ cross (arrow_of e) (difference l r)) (sym (held v few)) apart

  pub turn_of_second : to_z w64 (of_z w64 (to_z w64 (of_z w64 u) -ℤ v)) ≡ cross (arrow_of e) (difference l r)
  turn_of_second = subst (λ (z : ℤ). to_z w64 (of_z w64 (z -ℤ v)) ≡ cross (arrow_of e) (difference l r)) (sym (held u low)) apart

pub held_small : (v : ℤ) → nat_abs v ≤ 2 ^ 53 → nat_abs (to_z w64 (of_z w64 v)) ≤ 2 ^ 53
held_small v h = subst (λ (z : ℤ). nat_abs z ≤ 2 ^ 53) (sym (held v h)) h

-- ---- where the first line stays
pub right_of_first : (w : Wedge) (r : Pt) → Spans (Open w) (difference w.first.left.at r) → form_at w.first r ≤ℤ pos 0
right_of_first w r h = let t = turn_is w.first w.first.left.at r in let z = form_left w.first in let a = h.after in omega (arith, ints)

pub left_of_first : (w : Wedge) (l : Pt) → Spans (Open w) (difference l w.first.right.at) → pos 0 ≤ℤ form_at w.first l
left_of_first w l h = h.after

-- ---- where the second line stays
pub right_of_second : (w : Wedge) (r : Pt) → Spans (Open w) (difference w.second.left.at r) → pos 0 ≤ℤ form_at w.second r
right_of_second w r h = let t = turn_is w.second w.second.left.at r in let z = form_left w.second in let a = h.before in let b = turned (difference w.second.left.at r) (arrow_of w.second) in omega (arith, ints)

pub left_of_second : (w : Wedge) (l : Pt) → Spans (Open w) (difference l w.second.right.at) → form_at w.second l ≤ℤ pos 0
left_of_second w l h = let a = h.before in let b = turned (difference l w.second.right.at) (arrow_of w.second) in omega (arith, ints)

-- ---- the loops
-- the second line, on its way to take in a left end that is left of the first line
pub record SecondToLeft (R : List EndAt) (left : EndAt) (w : Wedge) (n : ℕ) (wide : Wedge) (value : ℤ) : Type 0 where
  pub first : wide.first ≡ w.first
  pub level : value ≡ form_at wide.second left.at
  pub small : nat_abs value ≤ 2 ^ 53
  pub part : (L : List EndAt) → IsConeOfEnds L R (Open w) → IsLeftPart L R left (Before n) (Open wide)

-- the first line, on its way to take in a right end that is left of the second line
pub record FirstToRight (L : List EndAt) (right : EndAt) (w : Wedge) (n : ℕ) (wide : Wedge) (value : ℤ) : Type 0 where
  pub second : wide.second ≡ w.second
  pub level : value ≡ form_at wide.first right.at
  pub small : nat_abs value ≤ 2 ^ 53
  pub part : (R : List EndAt) → IsConeOfEnds L R (Open w) → IsRightPart L R right (Before n) (Open wide)

pub beyond_first_left : (L R : List EndAt) (left r : EndAt) (w wide : Wedge) (n : ℕ) → IsConeOfEnds L R (Open w) → slice_get R n ≡ Some r → pos 0 <ℤ form_at w.first left.at → wide.first ≡ w.first → pos 0 <ℤ cross (arrow_of wide.first) (difference left.at r.at)
beyond_first_left L R left r w wide n k e h s = subst (λ (d : Extreme). pos 0 <ℤ cross (arrow_of d) (difference left.at r.at)) (sym s)
    (let t = turn_is w.first left.at r.at in let b = right_of_first w r.at (k.spans w.first.left r k.ends.first.0 (n, e)) in omega (arith, ints))

pub beyond_second_left : (L R : List EndAt) (left r : EndAt) (w wide : Wedge) (n : ℕ) → IsConeOfEnds L R (Open w) → slice_get R n ≡ Some r → form_at w.second left.at <ℤ pos 0 → wide.second ≡ w.second → cross (arrow_of wide.second) (difference left.at r.at) <ℤ pos 0
beyond_second_left L R left r w wide n k e h s = subst (λ (d : Extreme). cross (arrow_of d) (difference left.at r.at) <ℤ pos 0) (sym s)
    (let t = turn_is w.second left.at r.at in let b = right_of_second w r.at (k.spans w.second.left r k.ends.second.0 (n, e)) in omega (arith, ints))

pub beyond_first_right : (L R : List EndAt) (right l : EndAt) (w wide : Wedge) (n : ℕ) → IsConeOfEnds L R (Open w) → slice_get L n ≡ Some l → form_at w.first right.at <ℤ pos 0 → wide.first ≡ w.first → pos 0 <ℤ cross (arrow_of wide.first) (difference l.at right.at)
beyond_first_right L R right l w wide n k e h s = subst (λ (d : Extreme). pos 0 <ℤ cross (arrow_of d) (difference l.at right.at)) (sym s)
    (let t = turn_is w.first l.at right.at in let b = left_of_first w l.at (k.spans l w.first.right (n, e) k.ends.first.1) in omega (arith, ints))

pub beyond_second_right : (L R : List EndAt) (right l : EndAt) (w wide : Wedge) (n : ℕ) → IsConeOfEnds L R (Open w) → slice_get L n ≡ Some l → pos 0 <ℤ form_at w.second right.at → wide.second ≡ w.second → cross (arrow_of wide.second) (difference l.at right.at) <ℤ pos 0
beyond_second_right L R right l w wide n k e h s = subst (λ (d : Extreme). cross (arrow_of d) (difference l.at right.at) <ℤ pos 0) (sym s)
    (let t = turn_is w.second l.at right.at in let b = left_of_second w l.at (k.spans l w.second.right (n, e) k.ends.second.1) in omega (arith, ints))

-- ends of a line have the value 0
pub level_left : (e : Extreme) (left : EndAt) → e.left ≡ left → pos 0 ≡ form_at e left.at
level_left e left h = sym (subst (λ (d : EndAt). form_at e d.at ≡ pos 0) h (form_left e))

pub level_right : (e : Extreme) (right : EndAt) → e.right ≡ right → pos 0 ≡ form_at e right.at
level_right e right h = sym (subst (λ (d : EndAt). form_at e d.at ≡ pos 0) h (form_right e))
