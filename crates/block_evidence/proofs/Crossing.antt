-- Points that two segments, or a triangle and a point, have in common, by their weights.
use Rattle.std.proofs.Common.{◌≡◌, ℕ, ◌+◌, ◌<◌, ◌≤◌, List, [], ◌∷◌, Some, None, Bool, refl, sym, ap, ◌∙◌, arith, subst, subst₂, ℤ, pos, negsuc, ◌+ℤ◌, ◌-ℤ◌, ◌*ℤ◌, neg_ℤ, ◌≤ℤ◌, ◌<ℤ◌}
use Rattle.std.specs.Prelude.{if◌then◌else◌}
use Rattle.std.specs.List.{cons_option}
use Rattle.std.proofs.lemmas.Bool.{lt-ltb, le-ltb}
use Rattle.std.proofs.lemmas.Int.{ints}
use Rattle.math_base.proofs.Quoting.{quoting, by_ring, ring_at, combine1}
use Rattle.sight_names.specs.declared.limits.TheConstants.{RIGHT_END}
use Rattle.sight_names.specs.declared.names.Pt.{Pt}
use Rattle.sight_names.specs.declared.names.EndAt.{EndAt}
use Rattle.geom_exact.specs.Formulas.{turn_of}
use Rattle.geom_exact.proofs.SegmentLemmas.{four_turns, same_meeting_x, same_meeting_y}
use Rattle.block_evidence.specs.Stuck.{HullsMeet, AreStuck, left_ends, right_ends}
use Rattle.block_evidence.specs.SignTests.{AreWeights, AreOpposite, HasZeroBetween}
use Rattle.block_evidence.proofs.Means.{AsMean, means_meet, sum_cons}
use Rattle.math_base.proofs.Small.{nonneg_of_nonpos, some_of_sum}

-- ---- weights as whole numbers that aren't below 0
record Weight (w : ℤ) : Type 0 where
  number : ℕ
  is : pos number ≡ w

weight_of : (w : ℤ) → pos 0 ≤ℤ w → Weight w
weight_of (pos n) h = record { number = n; is = refl }
weight_of (negsuc n) h = absurd (omega (arith, ints))

mean_of_one : (p : Pt) (m s : ℕ) (x y : ℤ) → m ≡ s → pos m *ℤ p.x ≡ x → pos m *ℤ p.y ≡ y → AsMean (p ∷ []) s x y
mean_of_one p m s x y h i j = record {
  weights = m ∷ [];
  one_each = refl;
  weight = (let a = sum_cons m [] in omega (arith, a, h));
  x_is = last (pos m *ℤ p.x) x i;
  y_is = last (pos m *ℤ p.y) y j;
}
  where
    last : (a x : ℤ) → a ≡ x → a +ℤ pos 0 ≡ x
    last a x h = omega (arith, ints)

mean_of_two : (p q : Pt) (m n s : ℕ) (x y : ℤ) → m + n ≡ s → pos m *ℤ p.x +ℤ pos n *ℤ q.x ≡ x → pos m *ℤ p.y +ℤ pos n *ℤ q.y ≡ y → AsMean (p ∷ q ∷ []) s x y
mean_of_two p q m n s x y h i j = record {
  weights = m ∷ n ∷ [];
  one_each = refl;
  weight = (let a = sum_cons m (n ∷ []) in let b = sum_cons n [] in omega (arith, a, b, h));
  x_is = last (pos m *ℤ p.x) (pos n *ℤ q.x) x i;
  y_is = last (pos m *ℤ p.y) (pos n *ℤ q.y) y j;
}
  where
    last : (a b x : ℤ) → a +ℤ b ≡ x → a +ℤ (b +ℤ pos 0) ≡ x
    last a b x h = omega (arith, ints)

mean_of_three : (p q r : Pt) (l m n s : ℕ) (x y : ℤ) → l + m + n ≡ s → pos l *ℤ p.x +ℤ pos m *ℤ q.x +ℤ pos n *ℤ r.x ≡ x → pos l *ℤ p.y +ℤ pos m *ℤ q.y +ℤ pos n *ℤ r.y ≡ y → AsMean (p ∷ q ∷ r ∷ []) s x y
mean_of_three p q r l m n s x y h i j = record {
  weights = l ∷ m ∷ n ∷ [];
  one_each = refl;
  weight = (let a = sum_cons l (m ∷ n ∷ []) in let b = sum_cons m (n ∷ []) in let c = sum_cons n [] in omega (arith, a, b, c, h));
  x_is = last (pos l *ℤ p.x) (pos m *ℤ q.x) (pos n *ℤ r.x) x i;
  y_is = last (pos l *ℤ p.y) (pos m *ℤ q.y) (pos n *ℤ r.y) y j;
}
  where
    last : (a b c x : ℤ) → a +ℤ b +ℤ c ≡ x → a +ℤ (b +ℤ (c +ℤ pos 0)) ≡ x
    last a b c x h = omega (arith, ints)

-- the same three points, from the second one on
turned_on : (p q r : Pt) → turn_of p q r ≡ turn_of q r p
unfolding turn_of
turned_on p q r = ring_at (p.x ∷ p.y ∷ q.x ∷ q.y ∷ r.x ∷ r.y ∷ []) (search quoting depth 60 fits 200000) tt

-- ---- two segments
two_meet : (p q r s : Pt) (m n u v : ℕ) → pos 0 <ℤ (pos m +ℤ pos n) → pos m +ℤ pos n ≡ pos u +ℤ pos v → pos m *ℤ p.x +ℤ pos n *ℤ q.x ≡ pos u *ℤ r.x +ℤ pos v *ℤ s.x → pos m *ℤ p.y +ℤ pos n *ℤ q.y ≡ pos u *ℤ r.y +ℤ pos v *ℤ s.y → HullsMeet (p ∷ q ∷ []) (r ∷ s ∷ [])
two_meet p q r s m n u v h e i j = means_meet (p ∷ q ∷ []) (r ∷ s ∷ []) (m + n) (pos m *ℤ p.x +ℤ pos n *ℤ q.x) (pos m *ℤ p.y +ℤ pos n *ℤ q.y) (some_of_sum m n h)
    (mean_of_two p q m n (m + n) _ _ refl refl refl) (mean_of_two r s u v (m + n) _ _ (same m n u v e) (sym i) (sym j))
  where
    same : (m n u v : ℕ) → pos m +ℤ pos n ≡ pos u +ℤ pos v → u + v ≡ m + n
    same m n u v e = omega (arith, ints)

record Crossing (p q r s : Pt) (m n u v : ℤ) : Type 0 where
  first : pos 0 ≤ℤ m
  second : pos 0 ≤ℤ n
  third : pos 0 ≤ℤ u
  fourth : pos 0 ≤ℤ v
  some : pos 0 <ℤ (m +ℤ n)
  even : m +ℤ n ≡ u +ℤ v
  x : m *ℤ p.x +ℤ n *ℤ q.x ≡ u *ℤ r.x +ℤ v *ℤ s.x
  y : m *ℤ p.y +ℤ n *ℤ q.y ≡ u *ℤ r.y +ℤ v *ℤ s.y

crossing_by : (p q r s : Pt) (m n u v : ℕ) (a b c d : ℤ) → pos m ≡ a → pos n ≡ b → pos u ≡ c → pos v ≡ d → Crossing p q r s a b c d → HullsMeet (p ∷ q ∷ []) (r ∷ s ∷ [])
crossing_by p q r s m n u v a b c d e f g h k =
    let t = subst₂ (λ (a b : ℤ). Crossing p q r s a b c d) (sym e) (sym f) k in
    let z = subst₂ (λ (c d : ℤ). Crossing p q r s (pos m) (pos n) c d) (sym g) (sym h) t in
    two_meet p q r s m n u v z.some z.even z.x z.y

crossing_meets : (p q r s : Pt) (a b c d : ℤ) → Crossing p q r s a b c d → HullsMeet (p ∷ q ∷ []) (r ∷ s ∷ [])
crossing_meets p q r s a b c d k =
    let m = weight_of a k.first in
    let n = weight_of b k.second in
    let u = weight_of c k.third in
    let v = weight_of d k.fourth in
    crossing_by p q r s m.number n.number u.number v.number a b c d m.is n.is u.is v.is k

up_ring : (a b c d p q r s : ℤ) → c *ℤ s -ℤ d *ℤ r ≡ b *ℤ p -ℤ a *ℤ q → b *ℤ p +ℤ neg_ℤ a *ℤ q ≡ neg_ℤ d *ℤ r +ℤ c *ℤ s
up_ring a b c d p q r s h = combine1 (negsuc 0) h (by_ring (a ∷ b ∷ c ∷ d ∷ p ∷ q ∷ r ∷ s ∷ []) _ _ (search quoting depth 60 fits 200000) (search quoting depth 60 fits 200000) tt)

down_ring : (a b c d p q r s : ℤ) → c *ℤ s -ℤ d *ℤ r ≡ b *ℤ p -ℤ a *ℤ q → neg_ℤ b *ℤ p +ℤ a *ℤ q ≡ d *ℤ r +ℤ neg_ℤ c *ℤ s
down_ring a b c d p q r s h = combine1 (pos 1) h (by_ring (a ∷ b ∷ c ∷ d ∷ p ∷ q ∷ r ∷ s ∷ []) _ _ (search quoting depth 60 fits 200000) (search quoting depth 60 fits 200000) tt)

-- q is on the left of the line from r to s, p on its right
pub crosses_up : (p q r s : Pt) → turn_of r s p <ℤ turn_of r s q → HasZeroBetween (turn_of r s p) (turn_of r s q) → HasZeroBetween (turn_of p q s) (turn_of p q r) → HullsMeet (p ∷ q ∷ []) (r ∷ s ∷ [])
crosses_up p q r s h i j = crossing_meets p q r s (turn_of r s q) (neg_ℤ (turn_of r s p)) (neg_ℤ (turn_of p q s)) (turn_of p q r) (record {
  first = i.high;
  second = nonneg_of_nonpos (turn_of r s p) i.low;
  third = nonneg_of_nonpos (turn_of p q s) j.low;
  fourth = j.high;
  some = apart (turn_of r s p) (turn_of r s q) h;
  even = same (turn_of r s p) (turn_of r s q) (turn_of p q r) (turn_of p q s) (four_turns p q r s);
  x = up_ring (turn_of r s p) (turn_of r s q) (turn_of p q r) (turn_of p q s) p.x q.x r.x s.x (same_meeting_x p q r s);
  y = up_ring (turn_of r s p) (turn_of r s q) (turn_of p q r) (turn_of p q s) p.y q.y r.y s.y (same_meeting_y p q r s);
})
  where
    apart : (a b : ℤ) → a <ℤ b → pos 0 <ℤ (b +ℤ neg_ℤ a)
    apart a b h = omega (arith, ints)

    same : (a b c d : ℤ) → b -ℤ a ≡ c -ℤ d → b +ℤ neg_ℤ a ≡ neg_ℤ d +ℤ c
    same a b c d h = omega (arith, ints)

-- the other way
pub crosses_down : (p q r s : Pt) → turn_of r s q <ℤ turn_of r s p → HasZeroBetween (turn_of r s q) (turn_of r s p) → HasZeroBetween (turn_of p q r) (turn_of p q s) → HullsMeet (p ∷ q ∷ []) (r ∷ s ∷ [])
crosses_down p q r s h i j = crossing_meets p q r s (neg_ℤ (turn_of r s q)) (turn_of r s p) (turn_of p q s) (neg_ℤ (turn_of p q r)) (record {
  first = nonneg_of_nonpos (turn_of r s q) i.low;
  second = i.high;
  third = j.high;
  fourth = nonneg_of_nonpos (turn_of p q r) j.low;
  some = apart (turn_of r s p) (turn_of r s q) h;
  even = same (turn_of r s p) (turn_of r s q) (turn_of p q r) (turn_of p q s) (four_turns p q r s);
  x = down_ring (turn_of r s p) (turn_of r s q) (turn_of p q r) (turn_of p q s) p.x q.x r.x s.x (same_meeting_x p q r s);
  y = down_ring (turn_of r s p) (turn_of r s q) (turn_of p q r) (turn_of p q s) p.y q.y r.y s.y (same_meeting_y p q r s);
})
  where
    apart : (a b : ℤ) → b <ℤ a → pos 0 <ℤ (neg_ℤ b +ℤ a)
    apart a b h = omega (arith, ints)

    same : (a b c d : ℤ) → b -ℤ a ≡ c -ℤ d → neg_ℤ b +ℤ a ≡ d +ℤ neg_ℤ c
    same a b c d h = omega (arith, ints)

between_at : (a b u v : ℤ) → a ≡ u → b ≡ v → HasZeroBetween a b → HasZeroBetween u v
between_at a b u v e f h = record { low = omega (arith, ints); high = omega (arith, ints) }

-- ---- two segments, by turns that begin at p
fourth : (p q r s : Pt) → turn_of p r s +ℤ (turn_of p q r -ℤ turn_of p q s) ≡ turn_of r s q
fourth p q r s = by (turn_of p q r) (turn_of p q s) (turn_of p r s) (turn_of r s p) (turn_of r s q) (turned_on p r s) (four_turns p q r s)
  where
    by : (k l m n o : ℤ) → m ≡ n → o -ℤ n ≡ k -ℤ l → m +ℤ (k -ℤ l) ≡ o
    by k l m n o f e = omega (arith, ints)

-- values in place of turns
same_between : (a b c d k l m o : ℤ) → a ≡ k → b ≡ l → c ≡ m → d ≡ c +ℤ (a -ℤ b) → m +ℤ (k -ℤ l) ≡ o → HasZeroBetween c d → HasZeroBetween m o
same_between a b c d k l m o e f g h i j = record { low = omega (arith, ints); high = omega (arith, ints) }

same_back : (a b c d k l m o : ℤ) → a ≡ k → b ≡ l → c ≡ m → d ≡ c +ℤ (a -ℤ b) → m +ℤ (k -ℤ l) ≡ o → HasZeroBetween d c → HasZeroBetween o m
same_back a b c d k l m o e f g h i j = record { low = omega (arith, ints); high = omega (arith, ints) }

pub crosses_up_by : (p q r s : Pt) (a b c d u : ℤ) → a ≡ turn_of p q r → b ≡ turn_of p q s → c ≡ turn_of p r s → d ≡ u → u ≡ c +ℤ (a -ℤ b) → turn_of p q s <ℤ turn_of p q r → HasZeroBetween b a → HasZeroBetween c d → HullsMeet (p ∷ q ∷ []) (r ∷ s ∷ [])
crosses_up_by p q r s a b c d u e f g h v l i j = crosses_up p q r s (less (turn_of p q r) (turn_of p q s) (turn_of r s p) (turn_of r s q) (four_turns p q r s) l)
    (subst (λ (t : ℤ). HasZeroBetween t (turn_of r s q)) (turned_on p r s) (same_between a b c d (turn_of p q r) (turn_of p q s) (turn_of p r s) (turn_of r s q) e f g (h ∙ v) (fourth p q r s) j))
    (between_at b a (turn_of p q s) (turn_of p q r) f e i)
  where
    less : (k l m n : ℤ) → n -ℤ m ≡ k -ℤ l → l <ℤ k → m <ℤ n
    less k l m n e h = omega (arith, ints)

pub crosses_down_by : (p q r s : Pt) (a b c d u : ℤ) → a ≡ turn_of p q r → b ≡ turn_of p q s → c ≡ turn_of p r s → d ≡ u → u ≡ c +ℤ (a -ℤ b) → turn_of p q r <ℤ turn_of p q s → HasZeroBetween a b → HasZeroBetween d c → HullsMeet (p ∷ q ∷ []) (r ∷ s ∷ [])
crosses_down_by p q r s a b c d u e f g h v l i j = crosses_down p q r s (less (turn_of p q r) (turn_of p q s) (turn_of r s p) (turn_of r s q) (four_turns p q r s) l)
    (subst (λ (t : ℤ). HasZeroBetween (turn_of r s q) t) (turned_on p r s) (same_back a b c d (turn_of p q r) (turn_of p q s) (turn_of p r s) (turn_of r s q) e f g (h ∙ v) (fourth p q r s) j))
    (between_at a b (turn_of p q r) (turn_of p q s) e f i)
  where
    less : (k l m n : ℤ) → n -ℤ m ≡ k -ℤ l → k <ℤ l → n <ℤ m
    less k l m n e h = omega (arith, ints)

-- ---- a point and a triangle
three_meet : (p a b c : Pt) (l m n : ℕ) → pos 0 <ℤ (pos l +ℤ pos m +ℤ pos n) → (pos l +ℤ pos m +ℤ pos n) *ℤ p.x ≡ pos l *ℤ a.x +ℤ pos m *ℤ b.x +ℤ pos n *ℤ c.x → (pos l +ℤ pos m +ℤ pos n) *ℤ p.y ≡ pos l *ℤ a.y +ℤ pos m *ℤ b.y +ℤ pos n *ℤ c.y → HullsMeet (p ∷ []) (a ∷ b ∷ c ∷ [])
three_meet p a b c l m n h i j = means_meet (p ∷ []) (a ∷ b ∷ c ∷ []) (l + m + n) (pos (l + m + n) *ℤ p.x) (pos (l + m + n) *ℤ p.y) (above l m n h)
    (mean_of_one p (l + m + n) (l + m + n) _ _ refl refl refl)
    (mean_of_three a b c l m n (l + m + n) _ _ refl (sym i ∙ ap (λ (t : ℤ). t *ℤ p.x) (whole l m n)) (sym j ∙ ap (λ (t : ℤ). t *ℤ p.y) (whole l m n)))
  where
    above : (l m n : ℕ) → pos 0 <ℤ (pos l +ℤ pos m +ℤ pos n) → 0 < l + m + n
    above l m n h = omega (arith, ints)

    whole : (l m n : ℕ) → pos l +ℤ pos m +ℤ pos n ≡ pos (l + m + n)
    whole l m n = omega (arith, ints)

record Covering (p a b c : Pt) (l m n : ℤ) : Type 0 where
  weights : AreWeights l m n
  x : (l +ℤ m +ℤ n) *ℤ p.x ≡ l *ℤ a.x +ℤ m *ℤ b.x +ℤ n *ℤ c.x
  y : (l +ℤ m +ℤ n) *ℤ p.y ≡ l *ℤ a.y +ℤ m *ℤ b.y +ℤ n *ℤ c.y

covering_by : (p a b c : Pt) (l m n : ℕ) (u v w : ℤ) → pos l ≡ u → pos m ≡ v → pos n ≡ w → Covering p a b c u v w → HullsMeet (p ∷ []) (a ∷ b ∷ c ∷ [])
covering_by p a b c l m n u v w e f g k =
    let t = subst₂ (λ (u v : ℤ). Covering p a b c u v w) (sym e) (sym f) k in
    let z = subst (λ (w : ℤ). Covering p a b c (pos l) (pos m) w) (sym g) t in
    three_meet p a b c l m n z.weights.some z.x z.y

covering_meets : (p a b c : Pt) (u v w : ℤ) → Covering p a b c u v w → HullsMeet (p ∷ []) (a ∷ b ∷ c ∷ [])
covering_meets p a b c u v w k =
    let l = weight_of u k.weights.first in
    let m = weight_of v k.weights.second in
    let n = weight_of w k.weights.third in
    covering_by p a b c l.number m.number n.number u v w l.is m.is n.is k

-- the turns of a point round a triangle are its weights
pub covered_left : (p a b c : Pt) → AreWeights (turn_of b c p) (turn_of c a p) (turn_of a b p) → HullsMeet (p ∷ []) (a ∷ b ∷ c ∷ [])
unfolding turn_of
covered_left p a b c h = covering_meets p a b c (turn_of b c p) (turn_of c a p) (turn_of a b p) (record {
  weights = h;
  x = ring_at (a.x ∷ a.y ∷ b.x ∷ b.y ∷ c.x ∷ c.y ∷ p.x ∷ p.y ∷ []) (search quoting depth 60 fits 200000) tt;
  y = ring_at (a.x ∷ a.y ∷ b.x ∷ b.y ∷ c.x ∷ c.y ∷ p.x ∷ p.y ∷ []) (search quoting depth 60 fits 200000) tt;
})

covered_right : (p a b c : Pt) → AreOpposite (turn_of b c p) (turn_of c a p) (turn_of a b p) → HullsMeet (p ∷ []) (a ∷ b ∷ c ∷ [])
unfolding turn_of
covered_right p a b c h = covering_meets p a b c (neg_ℤ (turn_of b c p)) (neg_ℤ (turn_of c a p)) (neg_ℤ (turn_of a b p)) (record {
  weights = opposite (turn_of b c p) (turn_of c a p) (turn_of a b p) h;
  x = ring_at (a.x ∷ a.y ∷ b.x ∷ b.y ∷ c.x ∷ c.y ∷ p.x ∷ p.y ∷ []) (search quoting depth 60 fits 200000) tt;
  y = ring_at (a.x ∷ a.y ∷ b.x ∷ b.y ∷ c.x ∷ c.y ∷ p.x ∷ p.y ∷ []) (search quoting depth 60 fits 200000) tt;
})
  where
    opposite : (l m n : ℤ) → AreOpposite l m n → AreWeights (neg_ℤ l) (neg_ℤ m) (neg_ℤ n)
    opposite l m n h = record { first = omega (arith, ints); second = omega (arith, ints); third = omega (arith, ints); some = omega (arith, ints) }

pub hulls_turned : (ps qs : List Pt) → HullsMeet ps qs → HullsMeet qs ps
hulls_turned ps qs (r, m, n) = (r, n, m)

-- ---- ends by their codes
left_of : (e : EndAt) (es : List EndAt) → e.code < RIGHT_END → left_ends (e ∷ es) ≡ e.at ∷ left_ends es
left_of e es h = ap (λ (b : Bool). cons_option (if b then Some e.at else None) (left_ends es)) (lt-ltb e.code RIGHT_END h)

not_left : (e : EndAt) (es : List EndAt) → RIGHT_END ≤ e.code → left_ends (e ∷ es) ≡ left_ends es
not_left e es h = ap (λ (b : Bool). cons_option (if b then Some e.at else None) (left_ends es)) (le-ltb e.code RIGHT_END h)

right_of : (e : EndAt) (es : List EndAt) → RIGHT_END ≤ e.code → right_ends (e ∷ es) ≡ e.at ∷ right_ends es
right_of e es h = ap (λ (b : Bool). cons_option (if b then None else Some e.at) (right_ends es)) (le-ltb e.code RIGHT_END h)

not_right : (e : EndAt) (es : List EndAt) → e.code < RIGHT_END → right_ends (e ∷ es) ≡ right_ends es
not_right e es h = ap (λ (b : Bool). cons_option (if b then None else Some e.at) (right_ends es)) (lt-ltb e.code RIGHT_END h)

with_first : (p : Pt) (ps qs : List Pt) → ps ≡ qs → p ∷ ps ≡ p ∷ qs
with_first p ps qs h = ap (λ (t : List Pt). p ∷ t) h

pub stuck_by_two : (a b c d : EndAt) → a.code < RIGHT_END → b.code < RIGHT_END → RIGHT_END ≤ c.code → RIGHT_END ≤ d.code → HullsMeet (a.at ∷ b.at ∷ []) (c.at ∷ d.at ∷ []) → AreStuck (a ∷ b ∷ c ∷ d ∷ [])
stuck_by_two a b c d h i j k m = subst₂ (λ (ps qs : List Pt). HullsMeet ps qs)
    (sym (left_of a (b ∷ c ∷ d ∷ []) h ∙ with_first a.at (left_ends (b ∷ c ∷ d ∷ [])) (b.at ∷ []) (left_of b (c ∷ d ∷ []) i ∙ with_first b.at (left_ends (c ∷ d ∷ [])) [] (not_left c (d ∷ []) j ∙ not_left d [] k))))
    (sym (not_right a (b ∷ c ∷ d ∷ []) h ∙ not_right b (c ∷ d ∷ []) i ∙ right_of c (d ∷ []) j ∙ with_first c.at (right_ends (d ∷ [])) (d.at ∷ []) (right_of d [] k)))
    m

pub stuck_by_one : (a b c d : EndAt) → a.code < RIGHT_END → RIGHT_END ≤ b.code → RIGHT_END ≤ c.code → RIGHT_END ≤ d.code → HullsMeet (a.at ∷ []) (b.at ∷ c.at ∷ d.at ∷ []) → AreStuck (a ∷ b ∷ c ∷ d ∷ [])
stuck_by_one a b c d h i j k m = subst₂ (λ (ps qs : List Pt). HullsMeet ps qs)
    (sym (left_of a (b ∷ c ∷ d ∷ []) h ∙ with_first a.at (left_ends (b ∷ c ∷ d ∷ [])) [] (not_left b (c ∷ d ∷ []) i ∙ not_left c (d ∷ []) j ∙ not_left d [] k)))
    (sym (not_right a (b ∷ c ∷ d ∷ []) h ∙ right_of b (c ∷ d ∷ []) i ∙ with_first b.at (right_ends (c ∷ d ∷ [])) (c.at ∷ d.at ∷ []) (right_of c (d ∷ []) j ∙ with_first c.at (right_ends (d ∷ [])) (d.at ∷ []) (right_of d [] k))))
    m

pub stuck_by_three : (a b c d : EndAt) → a.code < RIGHT_END → b.code < RIGHT_END → c.code < RIGHT_END → RIGHT_END ≤ d.code → HullsMeet (d.at ∷ []) (a.at ∷ b.at ∷ c.at ∷ []) → AreStuck (a ∷ b ∷ c ∷ d ∷ [])
stuck_by_three a b c d h i j k m = subst₂ (λ (ps qs : List Pt). HullsMeet ps qs)
    (sym (left_of a (b ∷ c ∷ d ∷ []) h ∙ with_first a.at (left_ends (b ∷ c ∷ d ∷ [])) (b.at ∷ c.at ∷ []) (left_of b (c ∷ d ∷ []) i ∙ with_first b.at (left_ends (c ∷ d ∷ [])) (c.at ∷ []) (left_of c (d ∷ []) j ∙ with_first c.at (left_ends (d ∷ [])) [] (not_left d [] k)))))
    (sym (not_right a (b ∷ c ∷ d ∷ []) h ∙ not_right b (c ∷ d ∷ []) i ∙ not_right c (d ∷ []) j ∙ right_of d [] k))
    (hulls_turned (d.at ∷ []) (a.at ∷ b.at ∷ c.at ∷ []) m)

weights_at : (l m n u v w : ℤ) → l ≡ u → m ≡ v → n ≡ w → AreWeights l m n → AreWeights u v w
weights_at l m n u v w e f g h = record { first = omega (arith, ints); second = omega (arith, ints); third = omega (arith, ints); some = omega (arith, ints) }

opposite_at : (l m n u v w : ℤ) → l ≡ u → m ≡ v → n ≡ w → AreOpposite l m n → AreOpposite u v w
opposite_at l m n u v w e f g h = record { first = omega (arith, ints); second = omega (arith, ints); third = omega (arith, ints); some = omega (arith, ints) }

-- the turns of a triangle's edges at p, each from p on
pub weights_round : (p a b c : Pt) (l m n : ℤ) → l ≡ turn_of p b c → m ≡ turn_of p c a → n ≡ turn_of p a b → AreWeights l m n → HullsMeet (p ∷ []) (a ∷ b ∷ c ∷ [])
weights_round p a b c l m n e f g h = covered_left p a b c (weights_at l m n _ _ _ (e ∙ turned_on p b c) (f ∙ turned_on p c a) (g ∙ turned_on p a b) h)

pub opposite_round : (p a b c : Pt) (l m n : ℤ) → l ≡ turn_of p b c → m ≡ turn_of p c a → n ≡ turn_of p a b → AreOpposite l m n → HullsMeet (p ∷ []) (a ∷ b ∷ c ∷ [])
opposite_round p a b c l m n e f g h = covered_right p a b c (opposite_at l m n _ _ _ (e ∙ turned_on p b c) (f ∙ turned_on p c a) (g ∙ turned_on p a b) h)
