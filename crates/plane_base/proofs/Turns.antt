-- An angle that is widened by an arrow has in it what it had.
use Rattle.std.proofs.Common.{ℤ, pos, ◌+ℤ◌, ◌-ℤ◌, ◌*ℤ◌, neg_ℤ, ◌≡◌, sym, ap, ◌∙◌, [], ◌∷◌, arith, ◌≤ℤ◌, ◌<ℤ◌, inl, inr}
use Rattle.std.proofs.lemmas.Int.{ints}
use lib.IntN.{*ℤ-zero, *ℤ_comm}
use Rattle.math_base.proofs.IntLaws.{neg-*ℤ}
use Rattle.math_base.proofs.Quoting.{quoting, by_ring}
use Rattle.math_base.proofs.Signs.{mul-pos, mul-nonneg, pos-of-mul, nonneg-of-mul, zero-of-mul, mul-le, le-of-mul, le_or_lt, square-nonneg}
use Rattle.math_base.proofs.MoreSigns.{sum-pos}
use Rattle.plane_base.specs.Arrows.{Arrow, cross, dot, IsOnRay, IsArrowBetween}
use Rattle.math_base.proofs.Small.{zero_by_second, zero_by_first, zero_of_square}

pub turned : (u v : Arrow) → cross v u ≡ neg_ℤ (cross u v)
unfolding cross
turned u v = by_ring (u.x ∷ u.y ∷ v.x ∷ v.y ∷ []) _ _ (search quoting depth 40 fits 100000) (search quoting depth 40 fits 100000) tt

pub self : (u : Arrow) → cross u u ≡ pos 0
unfolding cross
self u = by_ring (u.x ∷ u.y ∷ []) _ _ (search quoting depth 40 fits 100000) (search quoting depth 40 fits 100000) tt

-- the turn from e to g, by the two ends of an angle
pub split_by : (d f e g : Arrow) → cross d f *ℤ cross e g ≡ cross e f *ℤ cross d g +ℤ cross d e *ℤ cross f g
unfolding cross
split_by d f e g = by_ring (d.x ∷ d.y ∷ f.x ∷ f.y ∷ e.x ∷ e.y ∷ g.x ∷ g.y ∷ []) _ _ (search quoting depth 40 fits 100000) (search quoting depth 40 fits 100000) tt

-- the same by one arrow and its normal
pub split_along : (d e g : Arrow) → dot d d *ℤ cross e g ≡ dot d e *ℤ cross d g -ℤ cross d e *ℤ dot d g
unfolding cross dot
split_along d e g = by_ring (d.x ∷ d.y ∷ e.x ∷ e.y ∷ g.x ∷ g.y ∷ []) _ _ (search quoting depth 40 fits 100000) (search quoting depth 40 fits 100000) tt

pub dot_along : (d e g : Arrow) → dot d d *ℤ dot e g ≡ dot d e *ℤ dot d g +ℤ cross d e *ℤ cross d g
unfolding cross dot
dot_along d e g = by_ring (d.x ∷ d.y ∷ e.x ∷ e.y ∷ g.x ∷ g.y ∷ []) _ _ (search quoting depth 40 fits 100000) (search quoting depth 40 fits 100000) tt

pub dot_nonneg : (d : Arrow) → pos 0 ≤ℤ dot d d
unfolding dot
dot_nonneg d = let a = square-nonneg d.x in let b = square-nonneg d.y in omega (arith, ints)

pub no_length : (d : Arrow) → dot d d ≤ℤ pos 0 → (d.x ≡ pos 0) × (d.y ≡ pos 0)
unfolding dot
no_length d h = let a = square-nonneg d.x in let b = square-nonneg d.y in (zero_of_square d.x (omega (arith, ints)), zero_of_square d.y (omega (arith, ints)))

at_zero : (d g : Arrow) → g.x ≡ pos 0 → g.y ≡ pos 0 → (cross d g ≡ pos 0) × (dot d g ≡ pos 0)
unfolding cross dot
at_zero d g ex ey =
    let a = ap (λ (t : ℤ). d.x *ℤ t) ex ∙ *ℤ-zero d.x in
    let b = ap (λ (t : ℤ). d.y *ℤ t) ex ∙ *ℤ-zero d.y in
    let c = ap (λ (t : ℤ). d.x *ℤ t) ey ∙ *ℤ-zero d.x in
    let e = ap (λ (t : ℤ). d.y *ℤ t) ey ∙ *ℤ-zero d.y in
    (omega (arith, ints), omega (arith, ints))

-- an arrow with a turn or a product has a length
pub long_of_cross : (d g : Arrow) → ¬ (cross d g ≡ pos 0) → pos 0 <ℤ dot g g
long_of_cross d g n = elim (le_or_lt (dot g g) (pos 0)) as (λ _. pos 0 <ℤ dot g g) [
  | inl h ↦ let z = no_length g h in absurd (n (at_zero d g z.0 z.1).0)
  | inr h ↦ h
]

pub long_of_dot : (d g : Arrow) → ¬ (dot d g ≡ pos 0) → pos 0 <ℤ dot g g
long_of_dot d g n = elim (le_or_lt (dot g g) (pos 0)) as (λ _. pos 0 <ℤ dot g g) [
  | inl h ↦ let z = no_length g h in absurd (n (at_zero d g z.0 z.1).1)
  | inr h ↦ h
]

-- ---- products with a factor 0

above : (a b : ℤ) → pos 0 <ℤ a → a ≤ℤ b → pos 0 <ℤ b
above a b h k = omega (arith, ints)

-- ---- a ray becomes an angle
pub ray_to_left : (d g e : Arrow) → pos 0 <ℤ dot d d → pos 0 <ℤ cross d g → IsOnRay d e → IsArrowBetween d g e
ray_to_left d g e hd h a =
    let ahead = above (dot d d) (dot d e) hd a.far in
    let s = split_along d e g in
    let z = zero_by_first (cross d e) (dot d g) a.level in
    let m = mul-pos (dot d e) (cross d g) ahead h in
    let k : pos 0 <ℤ cross e g = pos-of-mul (dot d d) (cross e g) hd (omega (arith, ints)) in
    let l = a.level in
    record { after = omega (arith, ints); before = omega (arith, ints); far_after = λ _. a.far; far_before = λ w. absurd (omega (arith, ints, k, w)) }

pub ray_to_right : (d g e : Arrow) → pos 0 <ℤ dot d d → cross d g <ℤ pos 0 → IsOnRay d e → IsArrowBetween g d e
ray_to_right d g e hd h a =
    let ahead = above (dot d d) (dot d e) hd a.far in
    let s = split_along d g e in
    let z = zero_by_second (dot d g) (cross d e) a.level in
    let n = neg-*ℤ (cross d g) (dot d e) in
    let m = mul-pos (neg_ℤ (cross d g)) (dot d e) (omega (arith, ints)) ahead in
    let k : pos 0 <ℤ cross g e = pos-of-mul (dot d d) (cross g e) hd (omega (arith, ints)) in
    let l = a.level in
    let t = turned d e in
    record { after = omega (arith, ints); before = omega (arith, ints); far_after = λ w. absurd (omega (arith, ints, k, w)); far_before = λ _. a.far }

pub ray_to_nearer : (d g e : Arrow) → pos 0 <ℤ dot d d → cross d g ≡ pos 0 → pos 0 <ℤ dot d g → dot d g ≤ℤ dot d d → IsOnRay d e → IsOnRay g e
ray_to_nearer d g e hd c h n a =
    let s = split_along d g e in
    let z1 = zero_by_second (dot d g) (cross d e) a.level in
    let z2 = zero_by_first (cross d g) (dot d e) c in
    let u = dot_along d g e in
    let v = dot_along d g g in
    let z3 = zero_by_first (cross d g) (cross d e) c in
    let z4 = zero_by_first (cross d g) (cross d g) c in
    let far = a.far in
    let m = mul-le (dot d g) (dot d g) (dot d e) (omega (arith, ints)) (omega (arith, ints)) in
    record { level = zero-of-mul (dot d d) (cross g e) hd (omega (arith, ints)); far = le-of-mul (dot d d) (dot g g) (dot g e) hd (omega (arith, ints)) }

-- ---- an angle is widened
pub proper : (d f e : Arrow) → pos 0 <ℤ dot d d → pos 0 <ℤ cross d f → IsArrowBetween d f e → pos 0 <ℤ (cross d e +ℤ cross e f)
proper d f e hd hD b = elim (le_or_lt (cross d e) (pos 0)) as (λ _. pos 0 <ℤ (cross d e +ℤ cross e f)) [
  | inr h ↦ let k = b.before in omega (arith, ints)
  | inl h ↦ elim (le_or_lt (cross e f) (pos 0)) as (λ _. pos 0 <ℤ (cross d e +ℤ cross e f)) [
    | inr k ↦ let l = b.after in omega (arith, ints)
    | inl k ↦
        let ba = b.after in
        let bb = b.before in
        let u : cross d e ≡ pos 0 = omega (arith, ints) in
        let v : cross e f ≡ pos 0 = omega (arith, ints) in
        let s = split_along d e f in
        let z1 = zero_by_second (dot d d) (cross e f) v in
        let z2 = zero_by_first (cross d e) (dot d f) u in
        let w : dot d e ≡ pos 0 = zero-of-mul (cross d f) (dot d e) hD (let c = *ℤ_comm (cross d f) (dot d e) in omega (arith, ints)) in
        let far = b.far_after u in
        absurd (omega (arith, ints))
  ]
]

pub wider_second : (d f g e : Arrow) → pos 0 <ℤ dot d d → pos 0 <ℤ cross d f → pos 0 <ℤ cross d g → cross g f <ℤ pos 0 → IsArrowBetween d f e → IsArrowBetween d g e
wider_second d f g e hd hD h1 h2 b =
    let s = split_by d f e g in
    let t = turned g f in
    let p = proper d f e hd hD b in
    let q = sum-pos (cross e f) (cross d e) (cross d g) (cross f g) b.before b.after (omega (arith, ints)) h1 (omega (arith, ints)) in
    let k : pos 0 <ℤ cross e g = pos-of-mul (cross d f) (cross e g) hD (omega (arith, ints)) in
    record { after = b.after; before = omega (arith, ints); far_after = b.far_after; far_before = λ w. absurd (omega (arith, ints, k, w)) }

pub nearer_second : (d f g e : Arrow) → pos 0 <ℤ dot f f → pos 0 <ℤ cross d f → pos 0 <ℤ cross d g → cross g f ≡ pos 0 → dot f g ≤ℤ dot f f → IsArrowBetween d f e → IsArrowBetween d g e
nearer_second d f g e hf hD h1 c n b =
    let t = turned g f in
    let c' : cross f g ≡ pos 0 = omega (arith, ints) in
    let s = split_by d f e g in
    let z1 = zero_by_second (cross d e) (cross f g) c' in
    let m1 = mul-nonneg (cross e f) (cross d g) b.before (omega (arith, ints)) in
    -- g has the direction of f
    let r = split_along f d g in
    let z2 = zero_by_second (dot f d) (cross f g) c' in
    let td = turned d f in
    let nn = neg-*ℤ (cross d f) (dot f g) in
    let e0 : cross f d *ℤ dot f g ≡ neg_ℤ (cross d f *ℤ dot f g) = ap (λ (t : ℤ). t *ℤ dot f g) td ∙ nn in
    let m2 = mul-pos (dot f f) (cross d g) hf h1 in
    let ahead : pos 0 <ℤ dot f g = pos-of-mul (cross d f) (dot f g) hD (omega (arith, ints)) in
    let k : pos 0 ≤ℤ cross e g = nonneg-of-mul (cross d f) (cross e g) hD (omega (arith, ints)) in
    record {
      after = b.after;
      before = k;
      far_after = b.far_after;
      far_before = λ w.
          let z3 = zero_by_second (cross d f) (cross e g) w in
          let y : cross e f ≡ pos 0 = zero-of-mul (cross d g) (cross e f) h1 (let k = *ℤ_comm (cross d g) (cross e f) in omega (arith, ints)) in
          let far = b.far_before y in
          nearer (dot f f) (dot f g) (dot f e) (dot g g) (dot g e) hf ahead (omega (arith, ints))
          (dot_along f g g ∙ drop (dot f g *ℤ dot f g) (cross f g *ℤ cross f g) (zero_by_first (cross f g) (cross f g) c'))
          (dot_along f g e ∙ drop (dot f g *ℤ dot f e) (cross f g *ℤ cross f e) (zero_by_first (cross f g) (cross f e) c'));
    }
  where
    drop : (a z : ℤ) → z ≡ pos 0 → a +ℤ z ≡ a
    drop a z h = omega (arith, ints)

    nearer : (n a b x y : ℤ) → pos 0 <ℤ n → pos 0 <ℤ a → a ≤ℤ b → n *ℤ x ≡ a *ℤ a → n *ℤ y ≡ a *ℤ b → x ≤ℤ y
    nearer n a b x y hn ha h u v = let m = mul-le a a b (omega (arith, ints)) h in le-of-mul n x y hn (omega (arith, ints))

-- ---- the same at the other end, by exchanging x and y
abbrev mirror : Arrow → Arrow
mirror u = record { x = u.y; y = u.x }

mirror_cross : (u v : Arrow) → cross (mirror u) (mirror v) ≡ cross v u
unfolding cross
mirror_cross u v = by_ring (u.x ∷ u.y ∷ v.x ∷ v.y ∷ []) _ _ (search quoting depth 40 fits 100000) (search quoting depth 40 fits 100000) tt

mirror_dot : (u v : Arrow) → dot (mirror u) (mirror v) ≡ dot u v
unfolding dot
mirror_dot u v = by_ring (u.x ∷ u.y ∷ v.x ∷ v.y ∷ []) _ _ (search quoting depth 40 fits 100000) (search quoting depth 40 fits 100000) tt

mirrored : (d f e : Arrow) → IsArrowBetween d f e → IsArrowBetween (mirror f) (mirror d) (mirror e)
mirrored d f e b =
    let u = mirror_cross f e in
    let v = mirror_cross e d in
    let ba = b.after in
    let bb = b.before in
    record {
      after = omega (arith, ints);
      before = omega (arith, ints);
      far_after = λ w. let k = b.far_before (sym u ∙ w) in let p = mirror_dot f f in let q = mirror_dot f e in omega (arith, ints);
      far_before = λ w. let k = b.far_after (sym v ∙ w) in let p = mirror_dot d d in let q = mirror_dot d e in omega (arith, ints);
    }

pub wider_first : (d f g e : Arrow) → pos 0 <ℤ dot f f → pos 0 <ℤ cross d f → cross d g <ℤ pos 0 → pos 0 <ℤ cross g f → IsArrowBetween d f e → IsArrowBetween g f e
wider_first d f g e hf hD h1 h2 b =
    let p = mirror_dot f f in let q = mirror_cross f d in let r = mirror_cross f g in let s = mirror_cross g d in
    mirrored (mirror f) (mirror g) (mirror e) (wider_second (mirror f) (mirror d) (mirror g) (mirror e) (omega (arith, ints)) (omega (arith, ints)) (omega (arith, ints)) (omega (arith, ints)) (mirrored d f e b))

pub nearer_first : (d f g e : Arrow) → pos 0 <ℤ dot d d → pos 0 <ℤ cross d f → cross d g ≡ pos 0 → pos 0 <ℤ cross g f → dot d g ≤ℤ dot d d → IsArrowBetween d f e → IsArrowBetween g f e
nearer_first d f g e hd hD c h2 n b =
    let p = mirror_dot d d in let q = mirror_cross f d in let r = mirror_cross f g in let s = mirror_cross g d in let t = mirror_dot d g in
    mirrored (mirror f) (mirror g) (mirror e) (nearer_second (mirror f) (mirror d) (mirror g) (mirror e) (omega (arith, ints)) (omega (arith, ints)) (omega (arith, ints)) (omega (arith, ints)) (omega (arith, ints)) (mirrored d f e b))

-- ---- the new arrow itself
pub at_second : (d g : Arrow) → pos 0 <ℤ cross d g → IsArrowBetween d g g
at_second d g h = let z = self g in record { after = omega (arith, ints); before = omega (arith, ints); far_after = λ w. absurd (omega (arith, ints, h, w)); far_before = λ _. omega (arith, ints) }

pub at_first : (g f : Arrow) → pos 0 <ℤ cross g f → IsArrowBetween g f g
at_first g f h = let z = self g in record { after = omega (arith, ints); before = omega (arith, ints); far_after = λ _. omega (arith, ints); far_before = λ w. absurd (omega (arith, ints, h, w)) }

pub at_ray : (g : Arrow) → IsOnRay g g
at_ray g = record { level = self g; far = omega (arith, ints) }

-- a ray's angle with an arrow on its left or right
pub ray_before : (d g : Arrow) → cross d g <ℤ pos 0 → pos 0 <ℤ cross g d
ray_before d g h = let t = turned d g in omega (arith, ints)

-- ---- arrows around the origin
pub around_x : (d f g : Arrow) → neg_ℤ (cross g f) *ℤ d.x +ℤ (neg_ℤ (cross d g) *ℤ f.x +ℤ (cross d f *ℤ g.x +ℤ pos 0)) ≡ pos 0
unfolding cross
around_x d f g = by_ring (d.x ∷ d.y ∷ f.x ∷ f.y ∷ g.x ∷ g.y ∷ []) _ _ (search quoting depth 40 fits 100000) (search quoting depth 40 fits 100000) tt

pub around_y : (d f g : Arrow) → neg_ℤ (cross g f) *ℤ d.y +ℤ (neg_ℤ (cross d g) *ℤ f.y +ℤ (cross d f *ℤ g.y +ℤ pos 0)) ≡ pos 0
unfolding cross
around_y d f g = by_ring (d.x ∷ d.y ∷ f.x ∷ f.y ∷ g.x ∷ g.y ∷ []) _ _ (search quoting depth 40 fits 100000) (search quoting depth 40 fits 100000) tt

opposite_ring_x : (d g : Arrow) → neg_ℤ (dot d g) *ℤ d.x +ℤ (pos 0 *ℤ d.x +ℤ (dot d d *ℤ g.x +ℤ pos 0)) ≡ cross d g *ℤ neg_ℤ d.y
unfolding cross dot
opposite_ring_x d g = by_ring (d.x ∷ d.y ∷ g.x ∷ g.y ∷ []) _ _ (search quoting depth 40 fits 100000) (search quoting depth 40 fits 100000) tt

opposite_ring_y : (d g : Arrow) → neg_ℤ (dot d g) *ℤ d.y +ℤ (pos 0 *ℤ d.y +ℤ (dot d d *ℤ g.y +ℤ pos 0)) ≡ cross d g *ℤ d.x
unfolding cross dot
opposite_ring_y d g = by_ring (d.x ∷ d.y ∷ g.x ∷ g.y ∷ []) _ _ (search quoting depth 40 fits 100000) (search quoting depth 40 fits 100000) tt

pub opposite_x : (d g : Arrow) → cross d g ≡ pos 0 → neg_ℤ (dot d g) *ℤ d.x +ℤ (pos 0 *ℤ d.x +ℤ (dot d d *ℤ g.x +ℤ pos 0)) ≡ pos 0
opposite_x d g c = opposite_ring_x d g ∙ zero_by_first (cross d g) (neg_ℤ d.y) c

pub opposite_y : (d g : Arrow) → cross d g ≡ pos 0 → neg_ℤ (dot d g) *ℤ d.y +ℤ (pos 0 *ℤ d.y +ℤ (dot d d *ℤ g.y +ℤ pos 0)) ≡ pos 0
opposite_y d g c = opposite_ring_y d g ∙ zero_by_first (cross d g) d.x c
