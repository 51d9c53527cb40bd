-- The common point of two lines, by the turns of the ends of the one about the other.
use Rattle.std.proofs.Common.{◌≡◌, ℕ, ◌+◌, ◌*◌, ◌/◌, ◌<◌, ◌≤◌, ◌⊎◌, inl, inr, [], ◌∷◌, ℤ, pos, negsuc, ◌+ℤ◌, ◌-ℤ◌, ◌*ℤ◌, neg_ℤ, ◌≤ℤ◌, ◌<ℤ◌, Option, Some, MatchOption, option_and_then, slice_get, slice_index_or, sym, ◌∙◌, ap, ap₂, subst, subst₂, arith}
use borrow.Author.Differences.{ints}
use Rattle.math_base.proofs.Quoting.{quoting, by_ring, combine1}
use Rattle.std.proofs.Math.Nat.{mul-le-mul_left, mul_comm, lt-mul-div-succ, div-mul-le_self}
use Rattle.math_base.proofs.IntLaws.{add-*ℤ}
use Rattle.math_base.proofs.Numbers.{below_or_not}
use Rattle.math_base.proofs.Signs.{mul-le, le-of-mul, mul-pos, pos-of-mul, zero-of-mul, le_or_lt}
use Rattle.sight_names.specs.declared.names.Pt.{Pt}
use Rattle.sight_names.specs.declared.plan.Line.{Line}
use Rattle.sight_names.specs.Plan.{PlanParts}
use Rattle.sight_names.specs.Map.{MapLine, map_of, line_at, looked_up, origin}
use Rattle.mesh_base.proofs.SightLaws.Plans.{line_there}
use Rattle.math_base.proofs.Options.{one_value}
use Rattle.std.proofs.lemmas.Option.{get_or_from_slice_get}
use Rattle.sight_names.specs.Point.{Point, point_of, OnSegment}
use Rattle.sight_names.proofs.Portals.{scale_above}
use Rattle.geom_exact.specs.Formulas.{turn_of, AreOnOneSide}
use Rattle.geom_exact.proofs.SegmentLemmas.{on, beside, beside-mean, meet_x, meet_y, same_meeting_x, same_meeting_y, four_turns}
use Rattle.geom_exact.proofs.RelationLemmas.{apart_on_other_side}
use Rattle.std.specs.Prelude.{nat_abs}
use Rattle.map_faults.specs.Corners.{IsCornerOf, IsOneCornerOf, AreCornersOf, IsMeanDown}

straight : (p q : Pt) (z : Point) → OnSegment (point_of p) (point_of q) z → beside p q z ≡ pos 0
straight p q z h = let w = on p q z h in zero-of-mul (w.0 +ℤ w.1) (beside p q z) w.2.weighted (beside-mean p q w.0 w.1 z w.2)

-- the first turn isn't below 0 and the second not above, or the other way round
weighed : (a b x y z d : ℤ) → ¬ AreOnOneSide b a → (a -ℤ b) *ℤ z ≡ d *ℤ (a *ℤ x -ℤ b *ℤ y) → (pos (nat_abs a) +ℤ pos (nat_abs b)) *ℤ z ≡ d *ℤ (pos (nat_abs a) *ℤ x +ℤ pos (nat_abs b) *ℤ y)
weighed a b x y z d n h = cases (le_or_lt b (pos 0)) (le_or_lt (pos 0) a)
  where
    falls : pos 0 ≤ℤ a → b ≤ℤ pos 0 → (pos (nat_abs a) +ℤ pos (nat_abs b)) *ℤ z ≡ d *ℤ (pos (nat_abs a) *ℤ x +ℤ pos (nat_abs b) *ℤ y)
    falls ha hb =
        let ea : a ≡ pos (nat_abs a) = omega (arith, ints) in
        let eb : neg_ℤ b ≡ pos (nat_abs b) = omega (arith, ints) in
        subst (λ (m : ℤ). (m +ℤ pos (nat_abs b)) *ℤ z ≡ d *ℤ (m *ℤ x +ℤ pos (nat_abs b) *ℤ y)) ea
        (subst (λ (k : ℤ). (a +ℤ k) *ℤ z ≡ d *ℤ (a *ℤ x +ℤ k *ℤ y)) eb
        (combine1 (pos 1) h (by_ring (a ∷ b ∷ x ∷ y ∷ z ∷ d ∷ []) _ _ (search quoting depth 60 fits 200000) (search quoting depth 60 fits 200000) tt)))

    rises : a ≤ℤ pos 0 → pos 0 ≤ℤ b → (pos (nat_abs a) +ℤ pos (nat_abs b)) *ℤ z ≡ d *ℤ (pos (nat_abs a) *ℤ x +ℤ pos (nat_abs b) *ℤ y)
    rises ha hb =
        let ea : neg_ℤ a ≡ pos (nat_abs a) = omega (arith, ints) in
        let eb : b ≡ pos (nat_abs b) = omega (arith, ints) in
        subst (λ (m : ℤ). (m +ℤ pos (nat_abs b)) *ℤ z ≡ d *ℤ (m *ℤ x +ℤ pos (nat_abs b) *ℤ y)) ea
        (subst (λ (k : ℤ). (neg_ℤ a +ℤ k) *ℤ z ≡ d *ℤ (neg_ℤ a *ℤ x +ℤ k *ℤ y)) eb
        (combine1 (negsuc 0) h (by_ring (a ∷ b ∷ x ∷ y ∷ z ∷ d ∷ []) _ _ (search quoting depth 60 fits 200000) (search quoting depth 60 fits 200000) tt)))

    cases : (b ≤ℤ pos 0) ⊎ (pos 0 <ℤ b) → (pos 0 ≤ℤ a) ⊎ (a <ℤ pos 0) → (pos (nat_abs a) +ℤ pos (nat_abs b)) *ℤ z ≡ d *ℤ (pos (nat_abs a) *ℤ x +ℤ pos (nat_abs b) *ℤ y)
    cases (inl hb) (inl ha) = falls ha hb
    cases (inr hb) (inr ha) = rises (omega (arith, ints)) (omega (arith, ints))
    cases (inl hb) (inr ha) = elim (le_or_lt (pos 0) b) as (λ _. (pos (nat_abs a) +ℤ pos (nat_abs b)) *ℤ z ≡ d *ℤ (pos (nat_abs a) *ℤ x +ℤ pos (nat_abs b) *ℤ y)) [
      | inl zero ↦ rises (omega (arith, ints)) zero
      | inr below ↦ absurd (n (inr (below, ha)))
    ]
    cases (inr hb) (inl ha) = elim (le_or_lt a (pos 0)) as (λ _. (pos (nat_abs a) +ℤ pos (nat_abs b)) *ℤ z ≡ d *ℤ (pos (nat_abs a) *ℤ x +ℤ pos (nat_abs b) *ℤ y)) [
      | inl zero ↦ rises zero (omega (arith, ints))
      | inr above ↦ absurd (n (inl (hb, above)))
    ]

-- a coordinate of a point, rounded down by weights of which it is the mean
down : (w z d c v : ℤ) → pos 0 <ℤ w → pos 0 <ℤ d → w *ℤ z ≡ d *ℤ v → (c *ℤ w) ≤ℤ v → v <ℤ ((c +ℤ pos 1) *ℤ w) → ((c *ℤ d) ≤ℤ z) × (z <ℤ ((c +ℤ pos 1) *ℤ d))
down w z d c v hw hd e from to = (le-of-mul w (c *ℤ d) z hw low, gap)
  where
    step : (a b : ℤ) → a ≡ b → a ≤ℤ b
    step a b e = omega (arith, ints)

    through : (a b c : ℤ) → a ≤ℤ b → b ≤ℤ c → a ≤ℤ c
    through a b c h k = omega (arith, ints)

    not_below : (a b : ℤ) → pos 0 ≤ℤ (b -ℤ a) → a ≤ℤ b
    not_below a b h = omega (arith, ints)

    weak : (a : ℤ) → pos 0 <ℤ a → pos 0 ≤ℤ a
    weak a h = omega (arith, ints)

    low : (w *ℤ (c *ℤ d)) ≤ℤ (w *ℤ z)
    low = through _ _ _ (step (w *ℤ (c *ℤ d)) (d *ℤ (c *ℤ w)) (by_ring (w ∷ c ∷ d ∷ []) _ _ (search quoting depth 60 fits 200000) (search quoting depth 60 fits 200000) tt)) (through _ _ _ (mul-le d (c *ℤ w) v (weak d hd) from) (step (d *ℤ v) (w *ℤ z) (sym e)))

    above : (a b : ℤ) → a <ℤ b → pos 0 <ℤ (b -ℤ a)
    above a b h = omega (arith, ints)

    less : (a b : ℤ) → pos 0 <ℤ (b -ℤ a) → a <ℤ b
    less a b h = omega (arith, ints)

    gap : z <ℤ ((c +ℤ pos 1) *ℤ d)
    gap = less z ((c +ℤ pos 1) *ℤ d) (pos-of-mul w ((c +ℤ pos 1) *ℤ d -ℤ z) hw (subst (λ (t : ℤ). pos 0 <ℤ t) (combine1 (neg_ℤ (pos 1)) (sym e) (by_ring (w ∷ z ∷ d ∷ c ∷ v ∷ []) _ _ (search quoting depth 60 fits 200000) (search quoting depth 60 fits 200000) tt)) (mul-pos d ((c +ℤ pos 1) *ℤ w -ℤ v) hd (above v ((c +ℤ pos 1) *ℤ w) to))))

-- not both turns are 0
pub some_weight : (p q r s : Pt) → ¬ (turn_of p q r ≡ turn_of p q s) → 0 < nat_abs (turn_of r s q) + nat_abs (turn_of r s p)
some_weight p q r s n = elim (le_or_lt_nat 0 (nat_abs (turn_of r s q) + nat_abs (turn_of r s p))) as (λ _. 0 < nat_abs (turn_of r s q) + nat_abs (turn_of r s p)) [
  | inl lt ↦ lt
  | inr none ↦ absurd (n (same (turn_of r s q) (turn_of r s p) (turn_of p q r) (turn_of p q s) none (four_turns p q r s)))
]
  where
    le_or_lt_nat : (a b : ℕ) → (a < b) ⊎ (b ≤ a)
    le_or_lt_nat a b = below_or_not a b

    same : (a b c d : ℤ) → nat_abs a + nat_abs b ≤ 0 → a -ℤ b ≡ c -ℤ d → c ≡ d
    same a b c d h e = omega (arith, ints)

pub corner_is : (p q r s c : Pt) → ¬ (turn_of p q r ≡ turn_of p q s) → IsMeanDown (nat_abs (turn_of r s q)) (nat_abs (turn_of r s p)) p.x q.x c.x → IsMeanDown (nat_abs (turn_of r s q)) (nat_abs (turn_of r s p)) p.y q.y c.y → IsOneCornerOf p q r s c
corner_is p q r s c n hx hy = (n, rounded)
  where
    positive : (m k : ℕ) → 0 < m + k → pos 0 <ℤ (pos m +ℤ pos k)
    positive m k h = omega (arith, ints)

    rounded : IsCornerOf p q r s c
    rounded z common =
        let a = turn_of r s q in
        let b = turn_of r s p in
        let m = nat_abs a in
        let k = nat_abs b in
        let on_pq = straight p q z common.0 in
        let on_rs = straight r s z common.1 in
        let apart : ¬ AreOnOneSide b a = (λ one. apart_on_other_side p q r s one z common) in
        let x = weighed a b p.x q.x z.x (pos z.d) apart (ap (λ (t : ℤ). t *ℤ z.x) (four_turns p q r s) ∙ meet_x p q r s z on_pq on_rs ∙ ap (λ (t : ℤ). pos z.d *ℤ t) (same_meeting_x p q r s)) in
        let y = weighed a b p.y q.y z.y (pos z.d) apart (ap (λ (t : ℤ). t *ℤ z.y) (four_turns p q r s) ∙ meet_y p q r s z on_pq on_rs ∙ ap (λ (t : ℤ). pos z.d *ℤ t) (same_meeting_y p q r s)) in
        let some = positive m k (some_weight p q r s n) in
        let dx = down (pos m +ℤ pos k) z.x (pos z.d) c.x (pos m *ℤ p.x +ℤ pos k *ℤ q.x) some (scale_above z) x hx.from hx.to in
        let dy = down (pos m +ℤ pos k) z.y (pos z.d) c.y (pos m *ℤ p.y +ℤ pos k *ℤ q.y) some (scale_above z) y hy.from hy.to in
        record { x_from = dx.0; x_to = dx.1; y_from = dy.0; y_to = dy.1 }

-- ---- the mean by division

pub mean_bound : (m n a b q : ℕ) → 0 < m + n → a ≤ 67108864 → b ≤ 67108864 → q * (m + n) ≤ m * a + n * b → q ≤ 67108864
mean_bound m n a b q some ha hb h = elim (below_or_not 67108864 q) as (λ _. q ≤ 67108864) [
  | inl lt ↦ absurd (too_much (mul-le-mul_left m ha) (mul-le-mul_left n hb) (mul-le-mul_left (m + n) (let g : 67108865 ≤ q = omega arith in g)))
  | inr le ↦ le
]
  where
    swapped : q * (m + n) ≡ (m + n) * q
    swapped = mul_comm q (m + n)

    too_much : m * a ≤ m * 67108864 → n * b ≤ n * 67108864 → (m + n) * 67108865 ≤ (m + n) * q → ⊥
    too_much x y z = let e = swapped in omega arith

pub mean_above : (m n a b q : ℕ) → 0 < m + n → q ≡ (m * a + n * b) / (m + n) → m * a + n * b < (q + 1) * (m + n)
mean_above m n a b q some e = subst (λ (k : ℕ). m * a + n * b < (k + 1) * (m + n)) (sym e) (subst (λ (k : ℕ). m * a + n * b < k) (mul_comm (m + n) ((m * a + n * b) / (m + n) + 1)) (lt-mul-div-succ (m * a + n * b) some))

pub mean_below : (m n a b q : ℕ) → q ≡ (m * a + n * b) / (m + n) → q * (m + n) ≤ m * a + n * b
mean_below m n a b q e = subst (λ (k : ℕ). k * (m + n) ≤ m * a + n * b) (sym e) (div-mul-le_self (m * a + n * b) (m + n))

-- raised and lowered again
pub lowered_mean : (m n a b q : ℕ) (x y c : ℤ) → pos a ≡ x +ℤ pos 33554432 → pos b ≡ y +ℤ pos 33554432 → c ≡ pos q -ℤ pos 33554432 → q * (m + n) ≤ m * a + n * b → m * a + n * b < (q + 1) * (m + n) → IsMeanDown m n x y c
lowered_mean m n a b q x y c ea eb ec below above = record {
  from = shifted_le (c *ℤ (pos m +ℤ pos n)) (pos m *ℤ x +ℤ pos n *ℤ y) (pos (q * (m + n))) (pos (m * a + n * b)) (pos 33554432 *ℤ (pos m +ℤ pos n)) (le_pos _ _ below) product sum;
  to = shifted_lt (pos m *ℤ x +ℤ pos n *ℤ y) ((c +ℤ pos 1) *ℤ (pos m +ℤ pos n)) (pos (m * a + n * b)) (pos ((q + 1) * (m + n))) (pos 33554432 *ℤ (pos m +ℤ pos n)) (lt_pos _ _ above) sum next;
}
  where
    le_pos : (i j : ℕ) → i ≤ j → pos i ≤ℤ pos j
    le_pos i j h = omega (arith, ints)

    lt_pos : (i j : ℕ) → i < j → pos i <ℤ pos j
    lt_pos i j h = omega (arith, ints)

    shifted_le : (s t u v w : ℤ) → u ≤ℤ v → u ≡ s +ℤ w → v ≡ t +ℤ w → s ≤ℤ t
    shifted_le s t u v w h e f = omega (arith, ints)

    shifted_lt : (s t u v w : ℤ) → u <ℤ v → u ≡ s +ℤ w → v ≡ t +ℤ w → s <ℤ t
    shifted_lt s t u v w h e f = omega (arith, ints)

    lift : (c q : ℤ) → c ≡ q -ℤ pos 33554432 → q ≡ c +ℤ pos 33554432
    lift c q e = omega (arith, ints)

    up : pos q ≡ c +ℤ pos 33554432
    up = lift c (pos q) ec

    product : pos (q * (m + n)) ≡ c *ℤ (pos m +ℤ pos n) +ℤ pos 33554432 *ℤ (pos m +ℤ pos n)
    product = ap (λ (t : ℤ). t *ℤ (pos m +ℤ pos n)) up ∙ add-*ℤ c (pos 33554432) (pos m +ℤ pos n)

    next : pos ((q + 1) * (m + n)) ≡ (c +ℤ pos 1) *ℤ (pos m +ℤ pos n) +ℤ pos 33554432 *ℤ (pos m +ℤ pos n)
    next = ap (λ (t : ℤ). t *ℤ (pos m +ℤ pos n)) (one_more (pos q) c up) ∙ add-*ℤ (c +ℤ pos 1) (pos 33554432) (pos m +ℤ pos n)
      where
        one_more : (q c : ℤ) → q ≡ c +ℤ pos 33554432 → q +ℤ pos 1 ≡ (c +ℤ pos 1) +ℤ pos 33554432
        one_more q c e = omega (arith, ints)

    sum : pos (m * a + n * b) ≡ (pos m *ℤ x +ℤ pos n *ℤ y) +ℤ pos 33554432 *ℤ (pos m +ℤ pos n)
    sum = ap₂ (λ (s t : ℤ). pos m *ℤ s +ℤ pos n *ℤ t) ea eb ∙ by_ring (pos m ∷ pos n ∷ x ∷ y ∷ pos 33554432 ∷ []) _ _ (search quoting depth 60 fits 200000) (search quoting depth 60 fits 200000) tt

-- ---- of the lines of two records

pub corner_of_lines : (p : PlanParts) (i j : ℕ) (one other : Line) (a b c d : Pt) (o : Option Pt) → option_and_then (λ l. l) (slice_get p.lines i) ≡ Some one → option_and_then (λ l. l) (slice_get p.lines j) ≡ Some other
    → slice_get p.points one.a ≡ Some a → slice_get p.points one.b ≡ Some b → slice_get p.points other.a ≡ Some c → slice_get p.points other.b ≡ Some d
    → MatchOption o (turn_of a b c ≡ turn_of a b d) (IsOneCornerOf a b c d) → AreCornersOf (map_of p) i j o
corner_of_lines p i j one other a b c d o ei ej ea eb ec ed h k l ek el =
    subst₂ (λ (x y : MapLine). MatchOption o (turn_of x.first x.second y.first ≡ turn_of x.first x.second y.second) (IsOneCornerOf x.first x.second y.first y.second))
    (one_value (line_at (map_of p) i) (looked_up p.points one) k (line_there p i one (sym ei)) ek) (one_value (line_at (map_of p) j) (looked_up p.points other) l (line_there p j other (sym ej)) el)
    (subst₂ (λ (u v : Pt). MatchOption o (turn_of u v (slice_index_or p.points other.a origin) ≡ turn_of u v (slice_index_or p.points other.b origin)) (IsOneCornerOf u v (slice_index_or p.points other.a origin) (slice_index_or p.points other.b origin))) (read one.a a ea) (read one.b b eb)
    (subst₂ (λ (u v : Pt). MatchOption o (turn_of a b u ≡ turn_of a b v) (IsOneCornerOf a b u v)) (read other.a c ec) (read other.b d ed) h))
  where
    read : (n : ℕ) (x : Pt) → slice_get p.points n ≡ Some x → x ≡ slice_index_or p.points n origin
    read n x e = sym (get_or_from_slice_get p.points n x origin e)
