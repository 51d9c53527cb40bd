-- Segments on two sides of a line, and the order of the points as a line.
use Rattle.std.proofs.Common.{ℕ, ◌<◌, ◌≤◌, ◌⊎◌, inl, inr, ℤ, pos, ◌+ℤ◌, ◌-ℤ◌, ◌*ℤ◌, neg_ℤ, nat_abs, ◌<ℤ◌, ◌≤ℤ◌, ◌≡◌, [], ◌∷◌, length, slice_index_or, arith, sym, ap, ◌∙◌, subst}
use Rattle.std.proofs.lemmas.Int.{ints}
use Rattle.std.proofs.lemmas.Option.{slice_get-get_or}
use Rattle.math_base.proofs.Quoting.{quoting, by_ring, combine2}
use Rattle.math_base.proofs.Signs.{mul-pos, mul-nonneg, mul-le, le_or_lt, pos-of-mul}
use Rattle.math_base.proofs.MoreSigns.{sum-nonpos, sum-pos, mul-nonpos, mul-neg}
use Rattle.sight_names.specs.declared.names.Pt.{Pt}
use Rattle.sight_names.specs.Plan.{PlanParts, IsPlan, IsBefore}
use Rattle.sight_names.specs.Map.{map_of, origin}
use Rattle.sight_names.specs.Point.{Point}
use Rattle.sight_names.specs.Points.{place}
use Rattle.sight_names.specs.Sound.{IsCommon, MeetAtEnds}
use Rattle.sight_names.proofs.PlanNumbers.{place_of_plan}
use Rattle.geom_exact.proofs.SegmentLemmas.{IsOn, IsWeighted, on, other_way}
use Rattle.geom_exact.proofs.InsideLemmas.{IsInside}
use Rattle.math_base.proofs.Numbers.{below_same_or_above, same_below_or_above}
use Rattle.math_base.proofs.Small.{nonneg_of_pos, nonpos_of_neg, nonpos_of_zero, nonneg_sum}
use Rattle.sight_names.proofs.Portals.{scale_above}

-- a * x + b * y + c
abbrev pub lin : ℤ → ℤ → ℤ → Pt → ℤ
lin a b c p = a *ℤ p.x +ℤ b *ℤ p.y +ℤ c

abbrev at_point : ℤ → ℤ → ℤ → Point → ℤ
at_point a b c z = a *ℤ z.x +ℤ b *ℤ z.y +ℤ c *ℤ pos z.d

mean_identity : (a b c x y d m n px py qx qy : ℤ) → (m +ℤ n) *ℤ (a *ℤ x +ℤ b *ℤ y +ℤ c *ℤ d) -ℤ d *ℤ (m *ℤ (a *ℤ px +ℤ b *ℤ py +ℤ c) +ℤ n *ℤ (a *ℤ qx +ℤ b *ℤ qy +ℤ c))
    ≡ a *ℤ (x *ℤ (m +ℤ n) -ℤ d *ℤ (m *ℤ px +ℤ n *ℤ qx)) +ℤ b *ℤ (y *ℤ (m +ℤ n) -ℤ d *ℤ (m *ℤ py +ℤ n *ℤ qy))
mean_identity a b c x y d m n px py qx qy = by_ring (a ∷ b ∷ c ∷ x ∷ y ∷ d ∷ m ∷ n ∷ px ∷ py ∷ qx ∷ qy ∷ []) _ _ (search quoting depth 60 fits 400000) (search quoting depth 60 fits 400000) tt

mean_value : (a b c : ℤ) (p q : Pt) (m n : ℤ) (z : Point) → IsWeighted p q m n z → (m +ℤ n) *ℤ at_point a b c z ≡ pos z.d *ℤ (m *ℤ lin a b c p +ℤ n *ℤ lin a b c q)
mean_value a b c p q m n z w = combine2 a b w.x w.y (mean_identity a b c z.x z.y (pos z.d) m n p.x p.y q.x q.y)

not_above : (a b c : ℤ) (p q : Pt) (z : Point) → IsOn p q z → lin a b c p ≤ℤ pos 0 → lin a b c q ≤ℤ pos 0 → at_point a b c z ≤ℤ pos 0
not_above a b c p q z (m, n, w) h k =
    let s = sum-nonpos m n (lin a b c p) (lin a b c q) w.first w.second h k in
    let v = mean_value a b c p q m n z w in
    let d = scale_above z in
    let t = w.weighted in
    let g = mul-nonpos (pos z.d) (m *ℤ lin a b c p +ℤ n *ℤ lin a b c q) (omega (arith, ints)) s in
    elim (le_or_lt (at_point a b c z) (pos 0)) [
      | inl le ↦ le
      | inr lt ↦ absurd (let big = mul-pos (m +ℤ n) (at_point a b c z) t lt in omega (arith, ints, big, v, g))
    ]

is_above : (a b c : ℤ) (p q : Pt) (z : Point) → IsOn p q z → pos 0 <ℤ lin a b c p → pos 0 <ℤ lin a b c q → pos 0 <ℤ at_point a b c z
is_above a b c p q z (m, n, w) h k =
    let s = sum-pos m n (lin a b c p) (lin a b c q) w.first w.second w.weighted h k in
    let v = mean_value a b c p q m n z w in
    let g = mul-pos (pos z.d) (m *ℤ lin a b c p +ℤ n *ℤ lin a b c q) (scale_above z) s in
    pos-of-mul (m +ℤ n) (at_point a b c z) w.weighted (subst (λ (t : ℤ). pos 0 <ℤ t) (sym v) g)

-- a line has the one segment on its one side and the other strictly on its other side
pub separated : (a b c : ℤ) (p q r s : Pt) → lin a b c p ≤ℤ pos 0 → lin a b c q ≤ℤ pos 0 → pos 0 <ℤ lin a b c r → pos 0 <ℤ lin a b c s → (z : Point) → IsCommon p q r s z → ⊥
separated a b c p q r s hp hq hr hs z common =
    let low = not_above a b c p q z (on p q z common.0) hp hq in
    let high = is_above a b c r s z (on r s z common.1) hr hs in
    omega (arith, ints)

pub apart_at_ends : (p q r s : Pt) → ((z : Point) → IsCommon p q r s z → ⊥) → MeetAtEnds p q r s
apart_at_ends p q r s none = record { one = λ u v c d. absurd (none u c); ends = λ u c. absurd (none u c) }

pub common_turned : (p q r s : Pt) (z : Point) → IsCommon p q r s z → IsCommon q p r s z
common_turned p q r s z common = (other_way p q z common.0, common.1)

pub common_swapped : (p q r s : Pt) (z : Point) → IsCommon p q r s z → IsCommon r s p q z
common_swapped p q r s z common = (common.1, common.0)

-- ---- below and above

pub below_apart : (p q r s : Pt) → p.y <ℤ r.y → p.y <ℤ s.y → q.y <ℤ r.y → q.y <ℤ s.y → (z : Point) → IsCommon p q r s z → ⊥
below_apart p q r s a b c d z common = elim (le_or_lt p.y q.y) [
  | inl le ↦ separated (pos 0) (pos 1) (neg_ℤ q.y) p q r s (low p.x p.y q.y le) (low q.x q.y q.y (omega (arith, ints))) (high r.x r.y q.y c) (high s.x s.y q.y d) z common
  | inr lt ↦ separated (pos 0) (pos 1) (neg_ℤ p.y) p q r s (low p.x p.y p.y (omega (arith, ints))) (low q.x q.y p.y (omega (arith, ints))) (high r.x r.y p.y a) (high s.x s.y p.y b) z common
]
  where
    value : (x y t : ℤ) → pos 0 *ℤ x +ℤ pos 1 *ℤ y +ℤ neg_ℤ t ≡ y -ℤ t
    value x y t = by_ring (x ∷ y ∷ t ∷ []) _ _ (search quoting depth 60 fits 400000) (search quoting depth 60 fits 400000) tt

    low : (x y t : ℤ) → y ≤ℤ t → (pos 0 *ℤ x +ℤ pos 1 *ℤ y +ℤ neg_ℤ t) ≤ℤ pos 0
    low x y t h = subst (λ (k : ℤ). k ≤ℤ pos 0) (sym (value x y t)) (omega (arith, ints))

    high : (x y t : ℤ) → t <ℤ y → pos 0 <ℤ (pos 0 *ℤ x +ℤ pos 1 *ℤ y +ℤ neg_ℤ t)
    high x y t h = subst (λ (k : ℤ). pos 0 <ℤ k) (sym (value x y t)) (omega (arith, ints))

-- ---- the order of the points, as the sides of a steep line through one of them

-- the line through b, steep enough for a point at most n - 1 higher or lower
abbrev pub past : ℤ → Pt → Pt → ℤ
past n b p = lin n (pos 1) (neg_ℤ (n *ℤ b.x +ℤ b.y)) p

past_is : (n bx by px py : ℤ) → n *ℤ px +ℤ pos 1 *ℤ py +ℤ neg_ℤ (n *ℤ bx +ℤ by) ≡ n *ℤ (px -ℤ bx) +ℤ (py -ℤ by)
past_is n bx by px py = by_ring (n ∷ bx ∷ by ∷ px ∷ py ∷ []) _ _ (search quoting depth 60 fits 400000) (search quoting depth 60 fits 400000) tt

abbrev pub reach : Pt → Pt → ℤ
reach b p = pos (nat_abs (p.y -ℤ b.y))

steep : (n x y : ℤ) → pos 1 ≤ℤ x → pos 0 ≤ℤ n → neg_ℤ y <ℤ n → pos 0 <ℤ (n *ℤ x +ℤ y)
steep n x y h k g = let m = mul-le n (pos 1) x k h in omega (arith, ints, m)

steep_down : (n x y : ℤ) → x ≤ℤ (pos 0 -ℤ pos 1) → pos 0 ≤ℤ n → y <ℤ n → (n *ℤ x +ℤ y) <ℤ pos 0
steep_down n x y h k g = let m = mul-le n x (pos 0 -ℤ pos 1) k h in let e : n *ℤ (pos 0 -ℤ pos 1) ≡ neg_ℤ n = by_ring (n ∷ []) _ _ (search quoting depth 60 fits 400000) (search quoting depth 60 fits 400000) tt in omega (arith, ints, m, e)

flat : (n x y : ℤ) → x ≡ pos 0 → n *ℤ x +ℤ y ≡ y
flat n x y h = subst (λ (k : ℤ). n *ℤ k +ℤ y ≡ y) (sym h) (by_ring (n ∷ y ∷ []) _ _ (search quoting depth 60 fits 400000) (search quoting depth 60 fits 400000) tt)

pub past_after : (n : ℤ) (b p : Pt) → reach b p <ℤ n → IsBefore b p → pos 0 <ℤ past n b p
past_after n b p h before = subst (λ (k : ℤ). pos 0 <ℤ k) (sym (past_is n b.x b.y p.x p.y)) (go before)
  where
    go : IsBefore b p → pos 0 <ℤ (n *ℤ (p.x -ℤ b.x) +ℤ (p.y -ℤ b.y))
    go (inl lt) = steep n (p.x -ℤ b.x) (p.y -ℤ b.y) (omega (arith, ints)) (omega (arith, ints)) (omega (arith, ints))
    go (inr (e, lt)) = subst (λ (k : ℤ). pos 0 <ℤ k) (sym (flat n (p.x -ℤ b.x) (p.y -ℤ b.y) (omega (arith, ints)))) (omega (arith, ints))

pub past_before : (n : ℤ) (b p : Pt) → reach b p <ℤ n → IsBefore p b → past n b p <ℤ pos 0
past_before n b p h before = subst (λ (k : ℤ). k <ℤ pos 0) (sym (past_is n b.x b.y p.x p.y)) (go before)
  where
    go : IsBefore p b → (n *ℤ (p.x -ℤ b.x) +ℤ (p.y -ℤ b.y)) <ℤ pos 0
    go (inl lt) = steep_down n (p.x -ℤ b.x) (p.y -ℤ b.y) (omega (arith, ints)) (omega (arith, ints)) (omega (arith, ints))
    go (inr (e, lt)) = subst (λ (k : ℤ). k <ℤ pos 0) (sym (flat n (p.x -ℤ b.x) (p.y -ℤ b.y) (omega (arith, ints)))) (omega (arith, ints))

pub past_here : (n : ℤ) (b : Pt) → past n b b ≡ pos 0
past_here n b = past_is n b.x b.y b.x b.y ∙ (by_ring (n ∷ b.x ∷ b.y ∷ []) _ _ (search quoting depth 60 fits 400000) (search quoting depth 60 fits 400000) tt)

-- both ends of the one segment come before both ends of the other
both_before : (p q r s : Pt) → (p ≡ q) ⊎ IsBefore p q → IsBefore q r → IsBefore q s → (z : Point) → IsCommon p q r s z → ⊥
both_before p q r s order qr qs z common =
    let n : ℤ = pos 1 +ℤ reach q p +ℤ reach q r +ℤ reach q s in
    let a : pos 0 ≤ℤ reach q p = omega (arith, ints) in
    let b : pos 0 ≤ℤ reach q r = omega (arith, ints) in
    let c : pos 0 ≤ℤ reach q s = omega (arith, ints) in
    let np : reach q p <ℤ n = omega (arith, ints) in
    let nr : reach q r <ℤ n = omega (arith, ints) in
    let ns : reach q s <ℤ n = omega (arith, ints) in
    separated n (pos 1) (neg_ℤ (n *ℤ q.x +ℤ q.y)) p q r s (first n np order) (zero n) (past_after n q r nr qr) (past_after n q s ns qs) z common
  where
    zero : (n : ℤ) → past n q q ≤ℤ pos 0
    zero n = let e = past_here n q in subst (λ (k : ℤ). k ≤ℤ pos 0) (sym e) (omega (arith, ints))

    first : (n : ℤ) → reach q p <ℤ n → (p ≡ q) ⊎ IsBefore p q → past n q p ≤ℤ pos 0
    first n h (inl e) = subst (λ (k : Pt). past n q k ≤ℤ pos 0) (sym e) (zero n)
    first n h (inr lt) = let m = past_before n q p h lt in nonpos_of_neg (past n q p) m

pub place_before : (p : PlanParts) → IsPlan p → (i j : ℕ) → i < j → j < length p.points → IsBefore (place (map_of p) i) (place (map_of p) j)
place_before p is i j lt within =
    subst (λ (a : Pt). IsBefore a (place (map_of p) j)) (sym (place_of_plan p is i))
    (subst (λ (b : Pt). IsBefore (slice_index_or p.points i origin) b) (sym (place_of_plan p is j))
    (is.ascend i j _ _ lt (slice_get-get_or p.points i origin (omega arith)) (slice_get-get_or p.points j origin within)))

-- segments between numbers of which those of the one are all before those of the other are apart
pub numbers_apart : (p : PlanParts) → IsPlan p → (i j k l : ℕ) → k < length p.points → l < length p.points → i < k → i < l → j < k → j < l
    → (z : Point) → IsCommon (place (map_of p) i) (place (map_of p) j) (place (map_of p) k) (place (map_of p) l) z → ⊥
numbers_apart p is i j k l wk wl ik il jk jl z common = elim (same_below_or_above i j) [
  | inl e ↦ both_before (at i) (at j) (at k) (at l) (inl (ap at e)) (place_before p is j k jk wk) (place_before p is j l jl wl) z common
  | inr (inl lt) ↦ both_before (at i) (at j) (at k) (at l) (inr (place_before p is i j lt (omega arith))) (place_before p is j k jk wk) (place_before p is j l jl wl) z common
  | inr (inr lt) ↦ both_before (at j) (at i) (at k) (at l) (inr (place_before p is j i lt (omega arith))) (place_before p is i k ik wk) (place_before p is i l il wl) z (common_turned (at i) (at j) (at k) (at l) z common)
]
  where
    at : ℕ → Pt
    at k = place (map_of p) k

-- a point inside a triangle with its least number first comes after that number and before the greatest
inside_value : (n b x y l m k ax ay bx by cx cy : ℤ) → l *ℤ (n *ℤ ax +ℤ pos 1 *ℤ ay +ℤ b) +ℤ m *ℤ (n *ℤ bx +ℤ pos 1 *ℤ by +ℤ b) +ℤ k *ℤ (n *ℤ cx +ℤ pos 1 *ℤ cy +ℤ b) -ℤ (l +ℤ m +ℤ k) *ℤ (n *ℤ x +ℤ pos 1 *ℤ y +ℤ b)
    ≡ (neg_ℤ n) *ℤ ((l +ℤ m +ℤ k) *ℤ x -ℤ (l *ℤ ax +ℤ m *ℤ bx +ℤ k *ℤ cx)) +ℤ (neg_ℤ (pos 1)) *ℤ ((l +ℤ m +ℤ k) *ℤ y -ℤ (l *ℤ ay +ℤ m *ℤ by +ℤ k *ℤ cy))
inside_value n b x y l m k ax ay bx by cx cy = by_ring (n ∷ b ∷ x ∷ y ∷ l ∷ m ∷ k ∷ ax ∷ ay ∷ bx ∷ by ∷ cx ∷ cy ∷ []) _ _ (search quoting depth 60 fits 400000) (search quoting depth 60 fits 400000) tt

inside_mean : (n b : ℤ) (p q r z : Pt) (i : IsInside p q r z) → i.l *ℤ lin n (pos 1) b p +ℤ i.m *ℤ lin n (pos 1) b q +ℤ i.n *ℤ lin n (pos 1) b r ≡ (i.l +ℤ i.m +ℤ i.n) *ℤ lin n (pos 1) b z
inside_mean n b p q r z i = combine2 (neg_ℤ n) (neg_ℤ (pos 1)) i.x i.y (inside_value n b z.x z.y i.l i.m i.n p.x p.y q.x q.y r.x r.y)

-- strictly inside, with no corner before b and one behind it: then behind b
inside_after : (n b : ℤ) (p q r z : Pt) → IsInside p q r z → pos 0 ≤ℤ lin n (pos 1) b p → pos 0 ≤ℤ lin n (pos 1) b q → pos 0 <ℤ lin n (pos 1) b r → lin n (pos 1) b z ≤ℤ pos 0 → ⊥
inside_after n b p q r z i hp hq hr hz =
    let e = inside_mean n b p q r z i in
    let a = mul-nonneg i.l (lin n (pos 1) b p) (nonneg_of_pos i.l i.first) hp in
    let c = mul-nonneg i.m (lin n (pos 1) b q) (nonneg_of_pos i.m i.second) hq in
    let d = mul-pos i.n (lin n (pos 1) b r) i.third hr in
    let w = nonneg_sum i.l i.m i.n i.first i.second i.third in
    let g = mul-nonpos (i.l +ℤ i.m +ℤ i.n) (lin n (pos 1) b z) w hz in
    omega (arith, ints, e, a, c, d, g)

inside_before : (n b : ℤ) (p q r z : Pt) → IsInside p q r z → lin n (pos 1) b p ≤ℤ pos 0 → lin n (pos 1) b q ≤ℤ pos 0 → lin n (pos 1) b r ≤ℤ pos 0 → (lin n (pos 1) b p <ℤ pos 0) ⊎ (lin n (pos 1) b q <ℤ pos 0) ⊎ (lin n (pos 1) b r <ℤ pos 0) → pos 0 ≤ℤ lin n (pos 1) b z → ⊥
inside_before n b p q r z i hp hq hr some hz =
    let e = inside_mean n b p q r z i in
    let w = nonneg_sum i.l i.m i.n i.first i.second i.third in
    let g = mul-nonneg (i.l +ℤ i.m +ℤ i.n) (lin n (pos 1) b z) w hz in
    let a = mul-nonpos i.l (lin n (pos 1) b p) (nonneg_of_pos i.l i.first) hp in
    let c = mul-nonpos i.m (lin n (pos 1) b q) (nonneg_of_pos i.m i.second) hq in
    let d = mul-nonpos i.n (lin n (pos 1) b r) (nonneg_of_pos i.n i.third) hr in
    go some e g a c d
  where
    go : (lin n (pos 1) b p <ℤ pos 0) ⊎ (lin n (pos 1) b q <ℤ pos 0) ⊎ (lin n (pos 1) b r <ℤ pos 0)
        → i.l *ℤ lin n (pos 1) b p +ℤ i.m *ℤ lin n (pos 1) b q +ℤ i.n *ℤ lin n (pos 1) b r ≡ (i.l +ℤ i.m +ℤ i.n) *ℤ lin n (pos 1) b z
        → pos 0 ≤ℤ ((i.l +ℤ i.m +ℤ i.n) *ℤ lin n (pos 1) b z) → (i.l *ℤ lin n (pos 1) b p) ≤ℤ pos 0 → (i.m *ℤ lin n (pos 1) b q) ≤ℤ pos 0 → (i.n *ℤ lin n (pos 1) b r) ≤ℤ pos 0 → ⊥
    go (inl h) e g a c d = let k = mul-neg i.l (lin n (pos 1) b p) i.first h in omega (arith, ints, e, g, a, c, d, k)
    go (inr (inl h)) e g a c d = let k = mul-neg i.m (lin n (pos 1) b q) i.second h in omega (arith, ints, e, g, a, c, d, k)
    go (inr (inr h)) e g a c d = let k = mul-neg i.n (lin n (pos 1) b r) i.third h in omega (arith, ints, e, g, a, c, d, k)

-- a steep line through b for three points
abbrev steepness : Pt → Pt → Pt → Pt → ℤ
steepness b p q r = pos 1 +ℤ reach b p +ℤ reach b q +ℤ reach b r

big1 : (a b c : ℕ) → pos a <ℤ (pos 1 +ℤ pos a +ℤ pos b +ℤ pos c)
big1 a b c = omega (arith, ints)

big2 : (a b c : ℕ) → pos b <ℤ (pos 1 +ℤ pos a +ℤ pos b +ℤ pos c)
big2 a b c = omega (arith, ints)

big3 : (a b c : ℕ) → pos c <ℤ (pos 1 +ℤ pos a +ℤ pos b +ℤ pos c)
big3 a b c = omega (arith, ints)

at_least : (x : ℤ) → x ≡ pos 0 → pos 0 ≤ℤ x
at_least x e = omega (arith, ints)

up_to : (b : Pt) (n : ℤ) (p : Pt) → reach b p <ℤ n → (b ≡ p) ⊎ IsBefore p b → past n b p ≤ℤ pos 0
up_to b n p h (inl e) = subst (λ (k : Pt). past n b k ≤ℤ pos 0) e (nonpos_of_zero (past n b b) (past_here n b))
up_to b n p h (inr lt) = nonpos_of_neg (past n b p) (past_before n b p h lt)

from_on : (b : Pt) (n : ℤ) (p : Pt) → reach b p <ℤ n → (b ≡ p) ⊎ IsBefore b p → pos 0 ≤ℤ past n b p
from_on b n p h (inl e) = subst (λ (k : Pt). pos 0 ≤ℤ past n b k) e (at_least (past n b b) (past_here n b))
from_on b n p h (inr lt) = nonneg_of_pos (past n b p) (past_after n b p h lt)

-- no point strictly inside comes before the first of the corners, or is it
pub not_before_first : (p q r z : Pt) → IsBefore p q → IsBefore p r → (p ≡ z) ⊎ IsBefore z p → IsInside p q r z → ⊥
not_before_first p q r z pq pr pz inside =
    inside_after (steepness p q r z) (neg_ℤ (steepness p q r z *ℤ p.x +ℤ p.y)) p q r z inside
    (at_least (past (steepness p q r z) p p) (past_here (steepness p q r z) p))
    (nonneg_of_pos (past (steepness p q r z) p q) (past_after (steepness p q r z) p q (big1 (abs q) (abs r) (abs z)) pq))
    (past_after (steepness p q r z) p r (big2 (abs q) (abs r) (abs z)) pr)
    (up_to p (steepness p q r z) z (big3 (abs q) (abs r) (abs z)) pz)
  where
    abs : Pt → ℕ
    abs k = nat_abs (k.y -ℤ p.y)

-- none comes after a point that no corner comes after, or is it, where the first corner comes before
pub not_after_last : (b p q r z : Pt) → IsBefore p b → (b ≡ q) ⊎ IsBefore q b → (b ≡ r) ⊎ IsBefore r b → (b ≡ z) ⊎ IsBefore b z → IsInside p q r z → ⊥
not_after_last b p q r z pb qb rb bz inside =
    let n : ℤ = steepness b p q r +ℤ reach b z in
    inside_before n (neg_ℤ (n *ℤ b.x +ℤ b.y)) p q r z inside
    (nonpos_of_neg (past n b p) (past_before n b p (w1 (abs p) (abs q) (abs r) (abs z)) pb))
    (up_to b n q (w2 (abs p) (abs q) (abs r) (abs z)) qb)
    (up_to b n r (w3 (abs p) (abs q) (abs r) (abs z)) rb)
    (inl (past_before n b p (w1 (abs p) (abs q) (abs r) (abs z)) pb))
    (from_on b n z (w4 (abs p) (abs q) (abs r) (abs z)) bz)
  where
    abs : Pt → ℕ
    abs k = nat_abs (k.y -ℤ b.y)

    w1 : (a b c d : ℕ) → pos a <ℤ (pos 1 +ℤ pos a +ℤ pos b +ℤ pos c +ℤ pos d)
    w1 a b c d = omega (arith, ints)

    w2 : (a b c d : ℕ) → pos b <ℤ (pos 1 +ℤ pos a +ℤ pos b +ℤ pos c +ℤ pos d)
    w2 a b c d = omega (arith, ints)

    w3 : (a b c d : ℕ) → pos c <ℤ (pos 1 +ℤ pos a +ℤ pos b +ℤ pos c +ℤ pos d)
    w3 a b c d = omega (arith, ints)

    w4 : (a b c d : ℕ) → pos d <ℤ (pos 1 +ℤ pos a +ℤ pos b +ℤ pos c +ℤ pos d)
    w4 a b c d = omega (arith, ints)

-- the number of a point strictly inside a triangle is behind the least number and before any that no corner's is above
pub inside_numbers : (p : PlanParts) → IsPlan p → (i j k z last : ℕ) → i < j → i < k → j < length p.points → k < length p.points → z < length p.points → j ≤ last → k ≤ last → last < length p.points
    → IsInside (place (map_of p) i) (place (map_of p) j) (place (map_of p) k) (place (map_of p) z) → (i < z) × (z < last)
inside_numbers p is i j k z last ij ik wj wk wz jl kl wl inside = (
  elim (below_same_or_above i z) [
    | inl lt ↦ lt
    | inr (inl e) ↦ absurd (not_before_first (at i) (at j) (at k) (at z) (before i j ij wj) (before i k ik wk) (inl (ap at e)) inside)
    | inr (inr lt) ↦ absurd (not_before_first (at i) (at j) (at k) (at z) (before i j ij wj) (before i k ik wk) (inr (before z i lt (omega arith))) inside)
  ],
  elim (below_same_or_above z last) [
    | inl lt ↦ lt
    | inr (inl e) ↦ absurd (not_after_last (at last) (at i) (at j) (at k) (at z) (before i last (omega arith) wl) (below j jl) (below k kl) (inl (ap at (sym e))) inside)
    | inr (inr lt) ↦ absurd (not_after_last (at last) (at i) (at j) (at k) (at z) (before i last (omega arith) wl) (below j jl) (below k kl) (inr (before last z lt wz)) inside)
  ],
)
  where
    at : ℕ → Pt
    at k = place (map_of p) k

    before : (i j : ℕ) → i < j → j < length p.points → IsBefore (at i) (at j)
    before i j h w = place_before p is i j h w

    eq_or_lt : (j : ℕ) → j ≤ last → (last ≡ j) ⊎ (j < last)
    eq_or_lt j h = grind arith

    below : (j : ℕ) → j ≤ last → (at last ≡ at j) ⊎ IsBefore (at j) (at last)
    below j h = elim (eq_or_lt j h) [ inl e ↦ inl (ap at e) | inr lt ↦ inr (before j last lt wl) ]
