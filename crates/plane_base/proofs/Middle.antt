-- The line in the middle of an angle splits the ends whose differences lie in it.
use Rattle.std.proofs.Common.{ℤ, pos, ◌-ℤ◌, ◌*ℤ◌, neg_ℤ, ◌≡◌, ap, ◌∙◌, [], ◌∷◌, arith, ◌≤ℤ◌, ◌<ℤ◌, inl, inr}
use Rattle.std.proofs.lemmas.Int.{ints}
use lib.IntN.{zero-*ℤ}
use Rattle.math_base.proofs.Quoting.{quoting, by_ring}
use Rattle.math_base.proofs.Signs.{mul-nonneg, nonneg-of-mul, le_or_lt}
use Rattle.plane_base.specs.Arrows.{Arrow, cross, dot, arrow_difference, IsOnRay, IsArrowBetween}
use Rattle.plane_base.proofs.Turns.{turned, self, split_along, proper}

-- one point in place of another
pub cross_by : (d p q s : Arrow) → cross d (arrow_difference p q) ≡ cross d (arrow_difference p s) -ℤ cross d (arrow_difference q s)
unfolding cross
cross_by d p q s = by_ring (d.x ∷ d.y ∷ p.x ∷ p.y ∷ q.x ∷ q.y ∷ s.x ∷ s.y ∷ []) _ _ (search quoting depth 40 fits 100000) (search quoting depth 40 fits 100000) tt

pub dot_by : (d p q s : Arrow) → dot d (arrow_difference p q) ≡ dot d (arrow_difference p s) -ℤ dot d (arrow_difference q s)
unfolding dot
dot_by d p q s = by_ring (d.x ∷ d.y ∷ p.x ∷ p.y ∷ q.x ∷ q.y ∷ s.x ∷ s.y ∷ []) _ _ (search quoting depth 40 fits 100000) (search quoting depth 40 fits 100000) tt

dot_here : (d p : Arrow) → dot d (arrow_difference p p) ≡ pos 0
unfolding dot
dot_here d p = by_ring (d.x ∷ d.y ∷ p.x ∷ p.y ∷ []) _ _ (search quoting depth 40 fits 100000) (search quoting depth 40 fits 100000) tt

cross_here : (d p : Arrow) → cross d (arrow_difference p p) ≡ pos 0
unfolding cross
cross_here d p = by_ring (d.x ∷ d.y ∷ p.x ∷ p.y ∷ []) _ _ (search quoting depth 40 fits 100000) (search quoting depth 40 fits 100000) tt

module _ (l1 r1 l2 r2 : Arrow) where
  abbrev first : Arrow
  first = arrow_difference l1 r1

  abbrev second : Arrow
  second = arrow_difference l2 r2

  -- the sum of what the two lines say of a point
  abbrev pub middle : Arrow → ℤ
  middle p = cross first (arrow_difference p r1) -ℤ cross second (arrow_difference p r2)

  pub left_near : (l : Arrow) → pos 0 <ℤ dot first first → pos 0 <ℤ cross first second → cross second (arrow_difference r1 r2) ≡ pos 0 → IsArrowBetween first second (arrow_difference l r1) → pos 0 <ℤ middle l
  left_near l hd hD z b =
      let p = proper first second (arrow_difference l r1) hd hD b in
      let e = cross_by second l r1 r2 in
      let t = turned second (arrow_difference l r1) in
      omega (arith, ints)

  pub left_any : (l : Arrow) → IsArrowBetween first second (arrow_difference l r1) → IsArrowBetween first second (arrow_difference l r2) → pos 0 ≤ℤ middle l
  left_any l a b =
      let h = a.after in
      let k = b.before in
      let t = turned second (arrow_difference l r2) in
      omega (arith, ints)

  -- the two parts at a right end
  right_first : (r : Arrow) → cross first (arrow_difference r r1) ≡ neg_ℤ (cross first (arrow_difference l1 r))
  right_first r = let e = cross_by first l1 r r1 in let z = self first in omega (arith, ints)

  right_second : (r : Arrow) → cross second (arrow_difference r r2) ≡ cross (arrow_difference l2 r) second
  right_second r = let e = cross_by second l2 r r2 in let z = self second in let t = turned second (arrow_difference l2 r) in omega (arith, ints)

  pub right_any : (r : Arrow) → IsArrowBetween first second (arrow_difference l1 r) → IsArrowBetween first second (arrow_difference l2 r) → middle r ≤ℤ pos 0
  right_any r a b =
      let h = a.after in
      let k = b.before in
      let u = right_first r in
      let v = right_second r in
      omega (arith, ints)

  -- where it is 0 at a right end, the first line's right end is on the second line
  right_zero : (r : Arrow) → pos 0 <ℤ dot first first → pos 0 <ℤ cross first second → IsArrowBetween first second (arrow_difference l2 r1) → IsArrowBetween first second (arrow_difference l1 r) → IsArrowBetween first second (arrow_difference l2 r) → pos 0 ≤ℤ middle r → cross second (arrow_difference r1 r2) ≡ pos 0
  right_zero r hd hD c a b h =
      let u = right_first r in
      let v = right_second r in
      let ha = a.after in
      let hb = b.before in
      let z1 : cross first (arrow_difference l1 r) ≡ pos 0 = omega (arith, ints) in
      let z2 : cross second (arrow_difference r r2) ≡ pos 0 = omega (arith, ints) in
      let far = a.far_after z1 in
      let e1 = dot_by first l1 r r1 in
      let e2 = dot_by first r1 r r1 in
      let e3 = dot_here first r1 in
      let ahead : pos 0 ≤ℤ dot first (arrow_difference r1 r) = omega (arith, ints) in
      let f1 = cross_by first r1 r r1 in
      let f2 = cross_here first r1 in
      let level : cross first (arrow_difference r1 r) ≡ pos 0 = omega (arith, ints) in
      let s = split_along first (arrow_difference r1 r) second in
      let m = mul-nonneg (dot first (arrow_difference r1 r)) (cross first second) ahead (omega (arith, ints)) in
      let z3 : cross first (arrow_difference r1 r) *ℤ dot first second ≡ pos 0 = ap (λ (t : ℤ). t *ℤ dot first second) level ∙ zero-*ℤ (dot first second) in
      let k : pos 0 ≤ℤ cross (arrow_difference r1 r) second = nonneg-of-mul (dot first first) (cross (arrow_difference r1 r) second) hd (omega (arith, ints)) in
      let g = cross_by second r1 r r2 in
      let t = turned second (arrow_difference r1 r) in
      let hc = c.before in
      let w = right_second r1 in
      omega (arith, ints)

  -- ---- an end strictly outside of the two lines widens nothing
  inside : (e : Arrow) → pos 0 <ℤ cross first e → pos 0 <ℤ cross e second → IsArrowBetween first second e
  inside e h k = record { after = omega (arith, ints); before = omega (arith, ints); far_after = λ w. absurd (omega (arith, ints, h, w)); far_before = λ w. absurd (omega (arith, ints, k, w)) }

  pub left_outside : (l r : Arrow) → pos 0 <ℤ cross first (arrow_difference l r1) → cross second (arrow_difference l r2) <ℤ pos 0 → IsArrowBetween first second (arrow_difference l1 r) → IsArrowBetween first second (arrow_difference l2 r) → IsArrowBetween first second (arrow_difference l r)
  left_outside l r h k a b =
      let e1 = cross_by first l r r1 in
      let e2 = cross_by second l r r2 in
      let u = right_first r in
      let v = right_second r in
      let t = turned second (arrow_difference l r) in
      let ha = a.after in
      let hb = b.before in
      inside (arrow_difference l r) (omega (arith, ints)) (omega (arith, ints))

  pub right_outside : (l r : Arrow) → cross first (arrow_difference r r1) <ℤ pos 0 → pos 0 <ℤ cross second (arrow_difference r r2) → IsArrowBetween first second (arrow_difference l r1) → IsArrowBetween first second (arrow_difference l r2) → IsArrowBetween first second (arrow_difference l r)
  right_outside l r h k a b =
      let e1 = cross_by first l r r1 in
      let e2 = cross_by second l r r2 in
      let t = turned second (arrow_difference l r) in
      let v = turned second (arrow_difference l r2) in
      let ha = a.after in
      let hb = b.before in
      inside (arrow_difference l r) (omega (arith, ints)) (omega (arith, ints))

  pub right_below : (r : Arrow) → pos 0 <ℤ dot first first → pos 0 <ℤ cross first second → ¬ (cross second (arrow_difference r1 r2) ≡ pos 0) → IsArrowBetween first second (arrow_difference l2 r1) → IsArrowBetween first second (arrow_difference l1 r) → IsArrowBetween first second (arrow_difference l2 r) → middle r <ℤ pos 0
  right_below r hd hD n c a b = elim (le_or_lt (pos 0) (middle r)) as (λ _. middle r <ℤ pos 0) [
    | inl h ↦ absurd (n (right_zero r hd hD c a b h))
    | inr h ↦ h
  ]

-- ---- all on one line
pub ray_left : (l1 r1 l : Arrow) → IsOnRay (arrow_difference l1 r1) (arrow_difference l r1) → pos 0 ≤ℤ dot (arrow_difference l1 r1) (arrow_difference l l1)
ray_left l1 r1 l a = let e = dot_by (arrow_difference l1 r1) l l1 r1 in let h = a.far in omega (arith, ints)

pub ray_right : (l1 r1 r : Arrow) → pos 0 <ℤ dot (arrow_difference l1 r1) (arrow_difference l1 r1) → IsOnRay (arrow_difference l1 r1) (arrow_difference l1 r) → dot (arrow_difference l1 r1) (arrow_difference r l1) <ℤ pos 0
ray_right l1 r1 r hd a =
    let e = dot_by (arrow_difference l1 r1) l1 r l1 in
    let z = dot_here (arrow_difference l1 r1) l1 in
    let h = a.far in
    omega (arith, ints)

-- strictly between two arrows
pub strictly_between : (d f e : Arrow) → pos 0 <ℤ cross d e → cross f e <ℤ pos 0 → IsArrowBetween d f e
strictly_between d f e h k =
    let t = turned f e in
    let b : pos 0 <ℤ cross e f = omega (arith, ints) in
    record { after = omega (arith, ints); before = omega (arith, ints); far_after = λ w. absurd (omega (arith, ints, h, w)); far_before = λ w. absurd (omega (arith, ints, b, w)) }
