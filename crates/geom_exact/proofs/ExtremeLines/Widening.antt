-- A cone that is widened by a line has in it what it had; a line that can't be added meets the extreme ones.
use Rattle.std.proofs.Common.{◌≡◌, ◌<◌, ℤ, pos, ◌+ℤ◌, ◌*ℤ◌, neg_ℤ, nat_abs, refl, sym, ap, ap₂, ◌∙◌, [], ◌∷◌, arith, ◌≤ℤ◌, ◌<ℤ◌, inl, inr, subst, subst₂, sum}
use Rattle.std.proofs.lemmas.Int.{ints}
use Rattle.math_base.proofs.Signs.{sign_cases, le_or_lt}
use Rattle.sight_names.specs.declared.names.Pt.{Pt}
use Rattle.sight_names.specs.declared.names.EndAt.{EndAt}
use Rattle.sight_names.specs.declared.names.EndPair.{EndPair}
use Rattle.sight_names.specs.Splitting.{AreBalanced, across, up}
use Rattle.sight_names.proofs.Records.{same_pt}
use Rattle.plane_base.specs.Arrows.{Arrow, cross, dot, IsOnRay, IsArrowBetween}
use Rattle.plane_base.proofs.Turns.{no_length, turned, long_of_cross, long_of_dot, ray_to_left, ray_to_right, ray_to_nearer, ray_before, wider_first, wider_second, nearer_first, nearer_second, at_first, at_second, at_ray, around_x, around_y, opposite_x, opposite_y}
use Rattle.geom_exact.specs.ExtremeLines.Differences.{difference}
use Rattle.geom_exact.specs.ExtremeLines.Spans.{arrow_of, end_pair_of, Spans, IsWidened, three_pairs}
use Rattle.geom_exact.specs.declared.extreme_lines.extreme.Extreme.{Extreme}
use Rattle.geom_exact.specs.declared.extreme_lines.wedge.Wedge.{Wedge}
use Rattle.geom_exact.specs.declared.extreme_lines.cone.Cone.{Cone}
use Rattle.geom_exact.specs.declared.extreme_lines.cone.Cone.TheVariants.{Ray, Open}
use Rattle.math_base.proofs.Ring.{same_of_difference}
use Rattle.math_base.proofs.Small.{abs_of_nonneg}

-- ---- lengths
pub long_of_turn : (d g : Arrow) → pos 0 <ℤ cross d g → pos 0 <ℤ dot g g
long_of_turn d g h = long_of_cross d g (λ e. omega (arith, ints, h, e))

pub long_of_turn_right : (d g : Arrow) → cross d g <ℤ pos 0 → pos 0 <ℤ dot g g
long_of_turn_right d g h = long_of_cross d g (λ e. omega (arith, ints, h, e))

pub long_of_ahead : (d g : Arrow) → pos 0 <ℤ dot d g → pos 0 <ℤ dot g g
long_of_ahead d g h = long_of_dot d g (λ e. omega (arith, ints, h, e))

-- ---- the arrow of a line that was made of these ends
pub made_arrow : (e : Extreme) (l r : EndAt) → e.left ≡ l → e.right ≡ r → arrow_of e ≡ difference l.at r.at
made_arrow e l r p q = ap₂ (λ (u v : EndAt). difference u.at v.at) p q

made_pair : (e : Extreme) (l r : EndAt) → e.left ≡ l → e.right ≡ r → end_pair_of e ≡ record { left = l; right = r }
made_pair e l r p q = ap₂ (λ (u v : EndAt). let w : EndPair = record { left = u; right = v } in w) p q

-- ---- unchanged
pub stays : (c : Cone) (l r : EndAt) → Spans c (difference l.at r.at) → IsWidened c l r c
stays c l r h = record { keeps = λ a b. b; has = h; first = inl refl; second = inl refl }

-- ---- a ray
pub ray_left_turn : (e : Extreme) (w : Wedge) (l r : EndAt) → w.first ≡ e → w.second.left ≡ l → w.second.right ≡ r → pos 0 <ℤ cross (arrow_of e) (difference l.at r.at) → IsWidened (Ray e) l r (Open w)
ray_left_turn e w l r s p q h = record {
  keeps = λ a b. moved a (ray_to_left (arrow_of e) (difference l.at r.at) a e.long h b);
  has = moved (difference l.at r.at) (at_second (arrow_of e) (difference l.at r.at) h);
  first = inl (ap end_pair_of s);
  second = inr (made_pair w.second l r p q);
}
  where
    moved : (a : Arrow) → IsArrowBetween (arrow_of e) (difference l.at r.at) a → IsArrowBetween (arrow_of w.first) (arrow_of w.second) a
    moved a b = subst₂ (λ (u v : Arrow). IsArrowBetween u v a) (sym (ap arrow_of s)) (sym (made_arrow w.second l r p q)) b

pub ray_right_turn : (e : Extreme) (w : Wedge) (l r : EndAt) → w.second ≡ e → w.first.left ≡ l → w.first.right ≡ r → cross (arrow_of e) (difference l.at r.at) <ℤ pos 0 → IsWidened (Ray e) l r (Open w)
ray_right_turn e w l r s p q h = record {
  keeps = λ a b. moved a (ray_to_right (arrow_of e) (difference l.at r.at) a e.long h b);
  has = moved (difference l.at r.at) (at_first (difference l.at r.at) (arrow_of e) (ray_before (arrow_of e) (difference l.at r.at) h));
  first = inr (made_pair w.first l r p q);
  second = inl (ap end_pair_of s);
}
  where
    moved : (a : Arrow) → IsArrowBetween (difference l.at r.at) (arrow_of e) a → IsArrowBetween (arrow_of w.first) (arrow_of w.second) a
    moved a b = subst₂ (λ (u v : Arrow). IsArrowBetween u v a) (sym (made_arrow w.first l r p q)) (sym (ap arrow_of s)) b

pub ray_shorter : (e new : Extreme) (l r : EndAt) → new.left ≡ l → new.right ≡ r → cross (arrow_of e) (difference l.at r.at) ≡ pos 0 → pos 0 <ℤ dot (arrow_of e) (difference l.at r.at) → dot (arrow_of e) (difference l.at r.at) ≤ℤ dot (arrow_of e) (arrow_of e) → IsWidened (Ray e) l r (Ray new)
ray_shorter e new l r p q z h n = record {
  keeps = λ a b. moved a (ray_to_nearer (arrow_of e) (difference l.at r.at) a e.long z h n b);
  has = moved (difference l.at r.at) (at_ray (difference l.at r.at));
  first = inr (made_pair new l r p q);
  second = inr (made_pair new l r p q);
}
  where
    moved : (a : Arrow) → IsOnRay (difference l.at r.at) a → IsOnRay (arrow_of new) a
    moved a b = subst (λ (u : Arrow). IsOnRay u a) (sym (made_arrow new l r p q)) b

-- ---- a wedge
second_before : (d f : Arrow) → cross f d <ℤ pos 0 → pos 0 <ℤ cross d f
second_before d f h = let t = turned f d in omega (arith, ints)

second_after : (d f : Arrow) → pos 0 <ℤ cross f d → cross d f <ℤ pos 0
second_after d f h = let t = turned f d in omega (arith, ints)

second_level : (d f : Arrow) → cross f d ≡ pos 0 → cross d f ≡ pos 0
second_level d f h = let t = turned f d in omega (arith, ints)

pub first_moves : (w new : Wedge) (l r : EndAt) → new.second ≡ w.second → new.first.left ≡ l → new.first.right ≡ r → cross (arrow_of w.first) (difference l.at r.at) ≤ℤ pos 0
    → (cross (arrow_of w.first) (difference l.at r.at) ≡ pos 0 → dot (arrow_of w.first) (difference l.at r.at) ≤ℤ dot (arrow_of w.first) (arrow_of w.first))
    → cross (arrow_of w.second) (difference l.at r.at) <ℤ pos 0 → IsWidened (Open w) l r (Open new)
first_moves w new l r s p q h n k = record {
  keeps = λ a b. moved a (step a b);
  has = moved (difference l.at r.at) (at_first (difference l.at r.at) (arrow_of w.second) before);
  first = inr (made_pair new.first l r p q);
  second = inl (ap end_pair_of s);
}
  where
    before : pos 0 <ℤ cross (difference l.at r.at) (arrow_of w.second)
    before = second_before (difference l.at r.at) (arrow_of w.second) k

    moved : (a : Arrow) → IsArrowBetween (difference l.at r.at) (arrow_of w.second) a → IsArrowBetween (arrow_of new.first) (arrow_of new.second) a
    moved a b = subst₂ (λ (u v : Arrow). IsArrowBetween u v a) (sym (made_arrow new.first l r p q)) (sym (ap arrow_of s)) b

    step : (a : Arrow) → IsArrowBetween (arrow_of w.first) (arrow_of w.second) a → IsArrowBetween (difference l.at r.at) (arrow_of w.second) a
    step a b = elim (sign_cases (cross (arrow_of w.first) (difference l.at r.at))) as (λ _. IsArrowBetween (difference l.at r.at) (arrow_of w.second) a) [
      | inl m ↦ wider_first (arrow_of w.first) (arrow_of w.second) (difference l.at r.at) a w.second.long w.spread m before b
      | inr m ↦ elim m as (λ _. IsArrowBetween (difference l.at r.at) (arrow_of w.second) a) [
        | inl z ↦ nearer_first (arrow_of w.first) (arrow_of w.second) (difference l.at r.at) a w.first.long w.spread z before (n z) b
        | inr m ↦ absurd (omega (arith, ints, m, h))
      ]
    ]

pub second_moves : (w new : Wedge) (l r : EndAt) → new.first ≡ w.first → new.second.left ≡ l → new.second.right ≡ r → pos 0 ≤ℤ cross (arrow_of w.second) (difference l.at r.at)
    → (cross (arrow_of w.second) (difference l.at r.at) ≡ pos 0 → dot (arrow_of w.second) (difference l.at r.at) ≤ℤ dot (arrow_of w.second) (arrow_of w.second))
    → pos 0 <ℤ cross (arrow_of w.first) (difference l.at r.at) → IsWidened (Open w) l r (Open new)
second_moves w new l r s p q h n k = record {
  keeps = λ a b. moved a (step a b);
  has = moved (difference l.at r.at) (at_second (arrow_of w.first) (difference l.at r.at) k);
  first = inl (ap end_pair_of s);
  second = inr (made_pair new.second l r p q);
}
  where
    moved : (a : Arrow) → IsArrowBetween (arrow_of w.first) (difference l.at r.at) a → IsArrowBetween (arrow_of new.first) (arrow_of new.second) a
    moved a b = subst₂ (λ (u v : Arrow). IsArrowBetween u v a) (sym (ap arrow_of s)) (sym (made_arrow new.second l r p q)) b

    step : (a : Arrow) → IsArrowBetween (arrow_of w.first) (arrow_of w.second) a → IsArrowBetween (arrow_of w.first) (difference l.at r.at) a
    step a b = elim (sign_cases (cross (arrow_of w.second) (difference l.at r.at))) as (λ _. IsArrowBetween (arrow_of w.first) (difference l.at r.at) a) [
      | inl m ↦ absurd (omega (arith, ints, m, h))
      | inr m ↦ elim m as (λ _. IsArrowBetween (arrow_of w.first) (difference l.at r.at) a) [
        | inl z ↦ nearer_second (arrow_of w.first) (arrow_of w.second) (difference l.at r.at) a w.second.long w.spread k (second_level (difference l.at r.at) (arrow_of w.second) z) (n z) b
        | inr m ↦ wider_second (arrow_of w.first) (arrow_of w.second) (difference l.at r.at) a w.first.long w.spread k (second_after (difference l.at r.at) (arrow_of w.second) m) b
      ]
    ]

-- the wedge as it was has the line in it
pub within_both : (w : Wedge) (l r : EndAt) → pos 0 <ℤ cross (arrow_of w.first) (difference l.at r.at) → cross (arrow_of w.second) (difference l.at r.at) <ℤ pos 0 → Spans (Open w) (difference l.at r.at)
within_both w l r h k = let b = second_before (difference l.at r.at) (arrow_of w.second) k in record { after = omega (arith, ints); before = omega (arith, ints); far_after = λ e. absurd (omega (arith, ints, h, e)); far_before = λ e. absurd (omega (arith, ints, b, e)) }

pub on_first : (w : Wedge) (l r : EndAt) → cross (arrow_of w.first) (difference l.at r.at) ≡ pos 0 → dot (arrow_of w.first) (arrow_of w.first) ≤ℤ dot (arrow_of w.first) (difference l.at r.at) → cross (arrow_of w.second) (difference l.at r.at) <ℤ pos 0 → Spans (Open w) (difference l.at r.at)
on_first w l r z h k = let b = second_before (difference l.at r.at) (arrow_of w.second) k in record { after = omega (arith, ints); before = omega (arith, ints); far_after = λ _. h; far_before = λ e. absurd (omega (arith, ints, b, e)) }

pub on_second : (w : Wedge) (l r : EndAt) → cross (arrow_of w.second) (difference l.at r.at) ≡ pos 0 → dot (arrow_of w.second) (arrow_of w.second) ≤ℤ dot (arrow_of w.second) (difference l.at r.at) → pos 0 <ℤ cross (arrow_of w.first) (difference l.at r.at) → Spans (Open w) (difference l.at r.at)
on_second w l r z h k = let b = second_level (difference l.at r.at) (arrow_of w.second) z in record { after = omega (arith, ints); before = omega (arith, ints); far_after = λ e. absurd (omega (arith, ints, k, e)); far_before = λ _. h }

-- ---- three pairs around the origin
as_nat : (u v w : ℤ) → pos 0 ≤ℤ u → pos 0 ≤ℤ v → pos 0 ≤ℤ w → pos 0 <ℤ w → 0 < sum (nat_abs u ∷ nat_abs v ∷ nat_abs w ∷ [])
as_nat u v w hu hv hw h = omega (arith, ints)

pub balanced : (p q r : EndPair) (u v w : ℤ) → pos 0 ≤ℤ u → pos 0 ≤ℤ v → pos 0 <ℤ w
    → u *ℤ across p +ℤ (v *ℤ across q +ℤ (w *ℤ across r +ℤ pos 0)) ≡ pos 0 → u *ℤ up p +ℤ (v *ℤ up q +ℤ (w *ℤ up r +ℤ pos 0)) ≡ pos 0 → AreBalanced (p ∷ q ∷ r ∷ [])
balanced p q r u v w hu hv hw ex ey = record {
  weights = nat_abs u ∷ nat_abs v ∷ nat_abs w ∷ [];
  one_each = refl;
  weighty = as_nat u v w hu hv k hw;
  x = same (across p) (across q) (across r) ∙ ex;
  y = same (up p) (up q) (up r) ∙ ey;
}
  where
    k : pos 0 ≤ℤ w
    k = omega (arith, ints)

    same : (a b c : ℤ) → pos (nat_abs u) *ℤ a +ℤ (pos (nat_abs v) *ℤ b +ℤ (pos (nat_abs w) *ℤ c +ℤ pos 0)) ≡ u *ℤ a +ℤ (v *ℤ b +ℤ (w *ℤ c +ℤ pos 0))
    same a b c = ap (λ (t : ℤ). t *ℤ a +ℤ (pos (nat_abs v) *ℤ b +ℤ (pos (nat_abs w) *ℤ c +ℤ pos 0))) (abs_of_nonneg u hu)
        ∙ ap (λ (t : ℤ). u *ℤ a +ℤ (t *ℤ b +ℤ (pos (nat_abs w) *ℤ c +ℤ pos 0))) (abs_of_nonneg v hv)
        ∙ ap (λ (t : ℤ). u *ℤ a +ℤ (v *ℤ b +ℤ (t *ℤ c +ℤ pos 0))) (abs_of_nonneg w k)

pub ray_meets : (e : Extreme) (l r : EndAt) → cross (arrow_of e) (difference l.at r.at) ≡ pos 0 → dot (arrow_of e) (difference l.at r.at) ≤ℤ pos 0 → AreBalanced (three_pairs (Ray e) l r)
ray_meets e l r z h = balanced (end_pair_of e) (end_pair_of e) (record { left = l; right = r }) (neg_ℤ (dot (arrow_of e) (difference l.at r.at))) (pos 0) (dot (arrow_of e) (arrow_of e)) (omega (arith, ints)) (omega (arith, ints)) e.long (opposite_x (arrow_of e) (difference l.at r.at) z) (opposite_y (arrow_of e) (difference l.at r.at) z)

pub wedge_meets : (w : Wedge) (l r : EndAt) → cross (arrow_of w.first) (difference l.at r.at) ≤ℤ pos 0 → pos 0 ≤ℤ cross (arrow_of w.second) (difference l.at r.at) → AreBalanced (three_pairs (Open w) l r)
wedge_meets w l r h k = balanced (end_pair_of w.first) (end_pair_of w.second) (record { left = l; right = r }) (neg_ℤ (cross (difference l.at r.at) (arrow_of w.second))) (neg_ℤ (cross (arrow_of w.first) (difference l.at r.at))) (cross (arrow_of w.first) (arrow_of w.second))
    (let t = turned (arrow_of w.second) (difference l.at r.at) in omega (arith, ints)) (omega (arith, ints)) w.spread (around_x (arrow_of w.first) (arrow_of w.second) (difference l.at r.at)) (around_y (arrow_of w.first) (arrow_of w.second) (difference l.at r.at))

-- ---- a line that was made of these ends, beside another
pub made_before : (e f : Extreme) (l r : EndAt) → e.left ≡ l → e.right ≡ r → cross (arrow_of f) (difference l.at r.at) <ℤ pos 0 → pos 0 <ℤ cross (arrow_of e) (arrow_of f)
made_before e f l r p q h = subst (λ (u : Arrow). pos 0 <ℤ cross u (arrow_of f)) (sym (made_arrow e l r p q)) (second_before (difference l.at r.at) (arrow_of f) h)

-- ---- two different points are apart

pub long_of_different : (l r : Pt) → ¬ (l ≡ r) → pos 0 <ℤ dot (difference l r) (difference l r)
long_of_different l r n = elim (le_or_lt (dot (difference l r) (difference l r)) (pos 0)) as (λ _. pos 0 <ℤ dot (difference l r) (difference l r)) [
  | inl h ↦ let z = no_length (difference l r) h in absurd (n (same_pt l r (same_of_difference l.x r.x z.0) (same_of_difference l.y r.y z.1)))
  | inr h ↦ h
]
