-- The inner tangent of ends that a line splits: the most clockwise of all arrows from a right end to a left end, and of
-- equal directions the shortest.
use Rattle.std.proofs.Common.{◌≡◌, ℤ, pos, ◌+ℤ◌, ◌-ℤ◌, ◌*ℤ◌, ◌≤ℤ◌, ◌<ℤ◌, arith, refl, sym, ap, ◌∙◌, subst, ◌⊎◌, inl, inr, List, [], ◌∷◌, ◌++◌}
use Rattle.std.proofs.lemmas.Int.{ints}
use Rattle.math_base.proofs.Quoting.{quoting, by_ring}
use Rattle.math_base.proofs.Signs.{mul-pos, pos-of-mul, zero-of-mul, mul-le, le-of-mul, sign_cases, le_or_lt}
use Rattle.plane_base.specs.Arrows.{Arrow, cross, dot, arrow_difference}
use Rattle.plane_base.proofs.Turns.{turned, self, long_of_dot}
use Rattle.plane_base.proofs.Middle.{cross_by, dot_by}
use Rattle.plane_base.proofs.Search.{In, in_left, in_right, in_cases, least_by}
use Rattle.math_base.proofs.Small.{nonneg_of_pos, pos_not_zero, zero_by_second, zero_by_first}

-- ---- the order of directions on one side of a line, and of equal directions by length

-- n is the line's normal: d is more clockwise than e, or as much and not longer
abbrev pub Sooner : Arrow → Arrow → Arrow → Type 0
Sooner n d e = (pos 0 <ℤ cross d e) ⊎ ((cross d e ≡ pos 0) × (dot n d ≤ℤ dot n e))

through : (n d e f : Arrow) → dot n e *ℤ cross d f ≡ dot n f *ℤ cross d e +ℤ dot n d *ℤ cross e f
unfolding cross dot
through n d e f = by_ring (n.x ∷ n.y ∷ d.x ∷ d.y ∷ e.x ∷ e.y ∷ f.x ∷ f.y ∷ []) _ _ (search quoting depth 40 fits 100000) (search quoting depth 40 fits 100000) tt

level_by : (n d e : Arrow) → dot n d *ℤ dot d e ≡ dot n e *ℤ dot d d +ℤ cross d e *ℤ cross n d
unfolding cross dot
level_by n d e = by_ring (n.x ∷ n.y ∷ d.x ∷ d.y ∷ e.x ∷ e.y ∷ []) _ _ (search quoting depth 40 fits 100000) (search quoting depth 40 fits 100000) tt

sooner_total : (n d e : Arrow) → Sooner n d e ⊎ Sooner n e d
sooner_total n d e = let t = turned d e in elim (sign_cases (cross d e)) as (λ _. Sooner n d e ⊎ Sooner n e d) [
  | inl h ↦ inr (inl (omega (arith, ints)))
  | inr k ↦ elim k as (λ _. Sooner n d e ⊎ Sooner n e d) [
    | inr h ↦ inl (inl h)
    | inl z ↦ elim (le_or_lt (dot n d) (dot n e)) as (λ _. Sooner n d e ⊎ Sooner n e d) [
      | inl h ↦ inl (inr (z, h))
      | inr h ↦ inr (inr (omega (arith, ints), omega (arith, ints)))
    ]
  ]
]

sooner_trans : (n d e f : Arrow) → pos 0 <ℤ dot n d → pos 0 <ℤ dot n e → pos 0 <ℤ dot n f → Sooner n d e → Sooner n e f → Sooner n d f
sooner_trans n d e f hd he hf (inl h) (inl k) = let t = through n d e f in let p = mul-pos (dot n f) (cross d e) hf h in let q = mul-pos (dot n d) (cross e f) hd k in inl (pos-of-mul (dot n e) (cross d f) he (omega (arith, ints)))
sooner_trans n d e f hd he hf (inl h) (inr k) = let t = through n d e f in let p = mul-pos (dot n f) (cross d e) hf h in let q = zero_by_second (dot n d) (cross e f) k.0 in inl (pos-of-mul (dot n e) (cross d f) he (omega (arith, ints)))
sooner_trans n d e f hd he hf (inr h) (inl k) = let t = through n d e f in let p = zero_by_second (dot n f) (cross d e) h.0 in let q = mul-pos (dot n d) (cross e f) hd k in inl (pos-of-mul (dot n e) (cross d f) he (omega (arith, ints)))
sooner_trans n d e f hd he hf (inr h) (inr k) = let t = through n d e f in let p = zero_by_second (dot n f) (cross d e) h.0 in let q = zero_by_second (dot n d) (cross e f) k.0 in
    let a = h.1 in let b = k.1 in
    inr (zero-of-mul (dot n e) (cross d f) he (omega (arith, ints)), omega (arith, ints))

-- of equal directions the one that is nearer by the normal is the shorter one
longer : (n d e : Arrow) → pos 0 <ℤ dot n d → pos 0 ≤ℤ dot d d → cross d e ≡ pos 0 → dot n d ≤ℤ dot n e → dot d d ≤ℤ dot d e
longer n d e hd hl z h =
    let t = level_by n d e in
    let w = zero_by_first (cross d e) (cross n d) z in
    let p = mul-le (dot d d) (dot n d) (dot n e) hl h in
    le-of-mul (dot n d) (dot d d) (dot d e) hd (order (dot n d) (dot d d) (dot d e) (dot n e) (cross d e *ℤ cross n d) t w p)
  where
    order : (a b c f z : ℤ) → a *ℤ c ≡ f *ℤ b +ℤ z → z ≡ pos 0 → (b *ℤ a) ≤ℤ (b *ℤ f) → (a *ℤ b) ≤ℤ (a *ℤ c)
    order a b c f z t w p = omega (arith, ints)

-- ---- tangents

-- the line from r to l, from a right end to a left end: left ends on it or on its left and on it not before l, right ends
-- on it or on its right and on it not beyond r
pub record IsTangent {A : Type 0} (left right : A → Arrow) (xs : List A) (l r : Arrow) : Type 0 where
  pub long : pos 0 <ℤ dot (arrow_difference l r) (arrow_difference l r)
  pub lefts : (x : A) → In x xs → pos 0 ≤ℤ cross (arrow_difference l r) (arrow_difference (left x) r)
  pub left_far : (x : A) → In x xs → cross (arrow_difference l r) (arrow_difference (left x) r) ≡ pos 0 → dot (arrow_difference l r) (arrow_difference l r) ≤ℤ dot (arrow_difference l r) (arrow_difference (left x) r)
  pub rights : (x : A) → In x xs → cross (arrow_difference l r) (arrow_difference (right x) r) ≤ℤ pos 0
  pub right_near : (x : A) → In x xs → cross (arrow_difference l r) (arrow_difference (right x) r) ≡ pos 0 → dot (arrow_difference l r) (arrow_difference (right x) r) ≤ℤ pos 0

-- a member whose left end and one whose right end give the tangent
pub record Tangent {A : Type 0} (left right : A → Arrow) (xs : List A) : Type 0 where
  pub at_left : A
  pub at_right : A
  pub in_left : In at_left xs
  pub in_right : In at_right xs
  pub tangent : IsTangent left right xs (left at_left) (right at_right)

-- no point is a right end of the one and a left end of the other
pub tangent_parts : {A : Type 0} (left right : A → Arrow) (xs ys : List A) (l r : Arrow) → IsTangent left right xs l r → IsTangent left right ys l r → (x y : A) → In x xs → In y ys → right x ≡ left y → ⊥
tangent_parts {A} left right xs ys l r s t x y i j e =
    let d = arrow_difference l r in
    let a = s.rights x i in
    let b = t.lefts y j in
    let same_cross : cross d (arrow_difference (right x) r) ≡ cross d (arrow_difference (left y) r) = ap (λ (p : Arrow). cross d (arrow_difference p r)) e in
    let same_dot : dot d (arrow_difference (right x) r) ≡ dot d (arrow_difference (left y) r) = ap (λ (p : Arrow). dot d (arrow_difference p r)) e in
    let z : cross d (arrow_difference (right x) r) ≡ pos 0 = level (cross d (arrow_difference (right x) r)) (cross d (arrow_difference (left y) r)) same_cross a b in
    let n = s.right_near x i z in
    let f = t.left_far y j (sym same_cross ∙ z) in
    clash (dot d d) (dot d (arrow_difference (right x) r)) (dot d (arrow_difference (left y) r)) same_dot n f s.long
  where
    level : (u v : ℤ) → u ≡ v → u ≤ℤ pos 0 → pos 0 ≤ℤ v → u ≡ pos 0
    level u v e h k = omega (arith, ints)

    clash : (k u v : ℤ) → u ≡ v → u ≤ℤ pos 0 → k ≤ℤ v → pos 0 <ℤ k → ⊥
    clash k u v e h n p = omega (arith, ints)

-- ---- all pairs of members

each_with : {A : Type 0} → A → List A → List (A × A)
each_with x [] = []
each_with x (y ∷ ys) = (x, y) ∷ each_with x ys

pairs : {A : Type 0} → List A → List A → List (A × A)
pairs [] ys = []
pairs (x ∷ xs) ys = each_with x ys ++ pairs xs ys

with_in : {A : Type 0} (x y : A) (ys : List A) → In y ys → In (x, y) (each_with x ys)
unfolding each_with
with_in x y [] j = absurd j
with_in {A} x y (z ∷ ys) j = elim j as (λ _. In (x, y) (each_with x (z ∷ ys))) [ inl e ↦ inl (ap (λ (w : A). (x, w)) e) | inr k ↦ inr (with_in x y ys k) ]

in_with : {A : Type 0} (x : A) (q : A × A) (ys : List A) → In q (each_with x ys) → (q.0 ≡ x) × In q.1 ys
unfolding each_with
in_with x q [] i = absurd i
in_with {A} x q (z ∷ ys) i = elim i as (λ _. (q.0 ≡ x) × In q.1 (z ∷ ys)) [ inl e ↦ (ap (λ (w : A × A). w.0) (sym e), inl (ap (λ (w : A × A). w.1) e)) | inr k ↦ let r = in_with x q ys k in (r.0, inr r.1) ]

pairs_in : {A : Type 0} (x y : A) (xs ys : List A) → In x xs → In y ys → In (x, y) (pairs xs ys)
unfolding pairs
pairs_in x y [] ys i j = absurd i
pairs_in {A} x y (z ∷ xs) ys i j = elim i as (λ _. In (x, y) (pairs (z ∷ xs) ys)) [
  | inl e ↦ in_left (x, y) (each_with z ys) (pairs xs ys) (subst (λ (w : A). In (x, y) (each_with w ys)) (sym e) (with_in x y ys j))
  | inr k ↦ in_right (x, y) (each_with z ys) (pairs xs ys) (pairs_in x y xs ys k j)
]

in_pairs : {A : Type 0} (q : A × A) (xs ys : List A) → In q (pairs xs ys) → In q.0 xs × In q.1 ys
unfolding pairs
in_pairs q [] ys i = absurd i
in_pairs q (z ∷ xs) ys i = elim (in_cases q (each_with z ys) (pairs xs ys) i) as (λ _. In q.0 (z ∷ xs) × In q.1 ys) [
  | inl j ↦ let r = in_with z q ys j in (inl (sym r.0), r.1)
  | inr j ↦ let r = in_pairs q xs ys j in (inr r.0, r.1)
]

-- ---- a tangent exists where a line splits the ends

module _ {A : Type 0} (left right : A → Arrow) (n : Arrow) where
  abbrev arrow_between : A × A → Arrow
  arrow_between q = arrow_difference (left q.0) (right q.1)

  abbrev Ahead : A × A → Type 0
  Ahead q = pos 0 <ℤ dot n (arrow_between q)

  ahead_or_not : (q : A × A) → Ahead q ⊎ ¬ Ahead q
  ahead_or_not q = elim (le_or_lt (dot n (arrow_between q)) (pos 0)) as (λ _. Ahead q ⊎ ¬ Ahead q) [ inl h ↦ inr (λ k. omega (arith, ints)) | inr h ↦ inl h ]

  right_turn : (l r y : Arrow) → cross (arrow_difference l r) (arrow_difference y r) ≡ cross (arrow_difference l r) (arrow_difference l r) -ℤ cross (arrow_difference l r) (arrow_difference l y)
  right_turn l r y = let e = cross_by (arrow_difference l r) l y r in omega (arith, ints)

  right_step : (l r y : Arrow) → dot (arrow_difference l r) (arrow_difference y r) ≡ dot (arrow_difference l r) (arrow_difference l r) -ℤ dot (arrow_difference l r) (arrow_difference l y)
  right_step l r y = let e = dot_by (arrow_difference l r) l y r in omega (arith, ints)

  turn_of : (d e : Arrow) → Sooner n d e → pos 0 ≤ℤ cross d e
  turn_of d e (inl h) = omega (arith, ints)
  turn_of d e (inr h) = let z = h.0 in omega (arith, ints)

  far_of : (d e : Arrow) → pos 0 <ℤ dot n d → pos 0 ≤ℤ dot d d → Sooner n d e → cross d e ≡ pos 0 → dot d d ≤ℤ dot d e
  far_of d e hd hl (inl h) z = absurd (omega (arith, ints))
  far_of d e hd hl (inr h) z = longer n d e hd hl z h.1

  tangent_of : (xs : List A) → ((x y : A) → In x xs → In y xs → pos 0 <ℤ dot n (arrow_difference (left x) (right y)))
      → (q : A × A) → In q.0 xs → In q.1 xs → ((x y : A) → In x xs → In y xs → Sooner n (arrow_between q) (arrow_difference (left x) (right y))) → IsTangent left right xs (left q.0) (right q.1)
  tangent_of xs apart q i j least =
      let l = left q.0 in let r = right q.1 in let d = arrow_difference l r in
      let ahead : pos 0 <ℤ dot n d = apart q.0 q.1 i j in
      let long : pos 0 <ℤ dot d d = long_of_dot n d (pos_not_zero (dot n d) ahead) in
      let own = self d in
      record {
        long = long;
        lefts = λ x k. turn_of d (arrow_difference (left x) r) (least x q.1 k j);
        left_far = λ x k z. far_of d (arrow_difference (left x) r) ahead (nonneg_of_pos (dot d d) long) (least x q.1 k j) z;
        rights = λ x k. right_side (cross d d) (cross d (arrow_difference l (right x))) (cross d (arrow_difference (right x) r)) own (right_turn l r (right x)) (turn_of d (arrow_difference l (right x)) (least q.0 x i k));
        right_near = λ x k z. near (dot d d) (dot d (arrow_difference l (right x))) (dot d (arrow_difference (right x) r)) (right_step l r (right x))
            (far_of d (arrow_difference l (right x)) ahead (nonneg_of_pos (dot d d) long) (least q.0 x i k) (level (cross d d) (cross d (arrow_difference l (right x))) (cross d (arrow_difference (right x) r)) own (right_turn l r (right x)) z));
      }
    where
      right_side : (o u v : ℤ) → o ≡ pos 0 → v ≡ o -ℤ u → pos 0 ≤ℤ u → v ≤ℤ pos 0
      right_side o u v h e k = omega (arith, ints)

      level : (o u v : ℤ) → o ≡ pos 0 → v ≡ o -ℤ u → v ≡ pos 0 → u ≡ pos 0
      level o u v h e k = omega (arith, ints)

      near : (o u v : ℤ) → v ≡ o -ℤ u → o ≤ℤ u → v ≤ℤ pos 0
      near o u v e h = omega (arith, ints)

  -- the ends of a list of at least one member that a line with normal n splits have a tangent
  pub tangent_exists : (x : A) (xs : List A) → ((y z : A) → In y (x ∷ xs) → In z (x ∷ xs) → pos 0 <ℤ dot n (arrow_difference (left y) (right z))) → Tangent left right (x ∷ xs)
  tangent_exists x xs apart =
      let ps = pairs (x ∷ xs) (x ∷ xs) in
      elim (least_by Ahead (λ q s. Sooner n (arrow_between q) (arrow_between s)) ahead_or_not (λ q s a b. sooner_total n (arrow_between q) (arrow_between s))
      (λ q s t a b c h k. sooner_trans n (arrow_between q) (arrow_between s) (arrow_between t) a b c h k) ps) as (λ _. Tangent left right (x ∷ xs)) [
        | inl h ↦
            let w = in_pairs h.it (x ∷ xs) (x ∷ xs) h.member in
            record {
              at_left = h.it.0;
              at_right = h.it.1;
              in_left = w.0;
              in_right = w.1;
              tangent = tangent_of (x ∷ xs) apart h.it w.0 w.1 (λ y z i j. h.least (y, z) (pairs_in y z (x ∷ xs) (x ∷ xs) i j) (apart y z i j));
            }
        | inr none ↦ absurd (none (x, x) (pairs_in x x (x ∷ xs) (x ∷ xs) (inl refl) (inl refl)) (apart x x (inl refl) (inl refl)))
      ]
