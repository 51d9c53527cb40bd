-- Hulls that meet and lines that part ends exclude each other; balanced pairs of ends show that the hulls meet.
use Rattle.std.proofs.Common.{◌≡◌, ℕ, zero, suc, ◌+◌, ◌<◌, ◌≤◌, List, [], ◌∷◌, length, sum, Some, None, Bool, true, false, refl, sym, ap, ◌∙◌, arith, ◌⊎◌, inl, inr, subst, subst₂, ℤ, pos, ◌+ℤ◌, ◌-ℤ◌, ◌*ℤ◌, neg_ℤ, ◌≤ℤ◌, ◌<ℤ◌}
use Rattle.std.specs.List.{cons_option}
use Rattle.std.specs.Prelude.{slice_get, nat_lt, if◌then◌else◌, map}
use Rattle.std.specs.List.{AllByRecursion}
use Rattle.std.proofs.lemmas.Int.{ints}
use Rattle.std.proofs.lemmas.List.Sums.{sum_by-cons}
use Rattle.std.proofs.lemmas.Bool.{lt-ltb, le-ltb, ltb-true, ltb-false}
use Rattle.math_base.proofs.Quoting.{quoting, by_ring}
use Rattle.math_base.proofs.Signs.{mul-pos, pos-of-mul}
use lib.IntN.{*ℤ_comm}
use Rattle.sight_names.specs.declared.limits.TheConstants.{RIGHT_END}
use Rattle.sight_names.specs.declared.names.Pt.{Pt}
use Rattle.sight_names.specs.declared.names.EndAt.{EndAt}
use Rattle.sight_names.specs.declared.names.EndPair.{EndPair}
use Rattle.sight_names.specs.Point.{Point, point_of, value_at}
use Rattle.sight_names.specs.Splitting.{AreBalanced, across, up, weighed}
use Rattle.block_evidence.specs.Stuck.{weighed_x, weighed_y, IsMeanOf, HullsMeet, left_ends, right_ends, AreStuck}
use Rattle.block_evidence.specs.Parted.{PartsEnds, AreEndsParted}
use Rattle.math_base.proofs.Options.{none_is_not_some, some_is_same}
use Rattle.math_base.proofs.Small.{weighed_pos, weighed_nonneg}
use Rattle.sight_names.proofs.Affine.{neg_value}

-- ---- a line's value at a mean
abbrev total : (Pt → ℤ) → List ℕ → List Pt → ℤ
total f (w ∷ ws) (p ∷ ps) = pos w *ℤ f p +ℤ total f ws ps
total f _ _ = pos 0

abbrev line : ℤ → ℤ → ℤ → Pt → ℤ
line a b c p = value_at a b c (point_of p)

total_ring : (a b c w s x y u v : ℤ) → a *ℤ (w *ℤ x +ℤ u) +ℤ b *ℤ (w *ℤ y +ℤ v) +ℤ c *ℤ (w +ℤ s) ≡ w *ℤ (a *ℤ x +ℤ b *ℤ y +ℤ c *ℤ pos 1) +ℤ (a *ℤ u +ℤ b *ℤ v +ℤ c *ℤ s)
total_ring a b c w s x y u v = by_ring (a ∷ b ∷ c ∷ w ∷ s ∷ x ∷ y ∷ u ∷ v ∷ []) _ _ (search quoting depth 40 fits 100000) (search quoting depth 40 fits 100000) tt

none_ring : (a b c : ℤ) → a *ℤ pos 0 +ℤ b *ℤ pos 0 +ℤ c *ℤ pos 0 ≡ pos 0
none_ring a b c = by_ring (a ∷ b ∷ c ∷ []) _ _ (search quoting depth 40 fits 100000) (search quoting depth 40 fits 100000) tt

pub sum_cons : (w : ℕ) (ws : List ℕ) → sum (w ∷ ws) ≡ w + sum ws
sum_cons w ws = sum_by-cons (λ x. x) w ws

total_is : (a b c : ℤ) (ws : List ℕ) (ps : List Pt) → length ws ≡ length ps → a *ℤ weighed_x ws ps +ℤ b *ℤ weighed_y ws ps +ℤ c *ℤ pos (sum ws) ≡ total (line a b c) ws ps
total_is a b c [] [] e = none_ring a b c
total_is a b c [] (p ∷ ps) e = absurd (omega (arith, e))
total_is a b c (w ∷ ws) [] e = absurd (omega (arith, e))
total_is a b c (w ∷ ws) (p ∷ ps) e = ap (λ (n : ℕ). a *ℤ weighed_x (w ∷ ws) (p ∷ ps) +ℤ b *ℤ weighed_y (w ∷ ws) (p ∷ ps) +ℤ c *ℤ pos n) (sum_cons w ws) ∙ total_ring a b c (pos w) (pos (sum ws)) p.x p.y (weighed_x ws ps) (weighed_y ws ps) ∙ ap (λ (t : ℤ). pos w *ℤ line a b c p +ℤ t) (total_is a b c ws ps (omega (arith, e)))

mean_ring : (a b c s x y d u v : ℤ) → x *ℤ s ≡ u *ℤ d → y *ℤ s ≡ v *ℤ d → (a *ℤ x +ℤ b *ℤ y +ℤ c *ℤ d) *ℤ s ≡ d *ℤ (a *ℤ u +ℤ b *ℤ v +ℤ c *ℤ s)
mean_ring a b c s x y d u v e f =
    by_ring (a ∷ b ∷ c ∷ s ∷ x ∷ y ∷ d ∷ []) _ (a *ℤ (x *ℤ s) +ℤ b *ℤ (y *ℤ s) +ℤ c *ℤ d *ℤ s) (search quoting depth 40 fits 100000) (search quoting depth 40 fits 100000) tt
    ∙ (λ i. a *ℤ e i +ℤ b *ℤ f i +ℤ c *ℤ d *ℤ s)
    ∙ by_ring (a ∷ b ∷ c ∷ s ∷ d ∷ u ∷ v ∷ []) _ _ (search quoting depth 40 fits 100000) (search quoting depth 40 fits 100000) tt

value_of_mean : (a b c : ℤ) (ps : List Pt) (r : Point) (m : IsMeanOf ps r) → value_at a b c r *ℤ pos (sum m.weights) ≡ pos r.d *ℤ total (line a b c) m.weights ps
value_of_mean a b c ps r m = mean_ring a b c (pos (sum m.weights)) r.x r.y (pos r.d) (weighed_x m.weights ps) (weighed_y m.weights ps) m.x m.y ∙ ap (λ (t : ℤ). pos r.d *ℤ t) (total_is a b c m.weights ps m.one_each)

total_nonneg : (f : Pt → ℤ) (ws : List ℕ) (ps : List Pt) → AllByRecursion (λ p. pos 0 <ℤ f p) ps → pos 0 ≤ℤ total f ws ps
total_nonneg f [] ps h = omega (arith, ints)
total_nonneg f (w ∷ ws) [] h = omega (arith, ints)
total_nonneg f (w ∷ ws) (p ∷ ps) h = let a = weighed_nonneg w (f p) h.0 in let b = total_nonneg f ws ps h.1 in omega (arith, ints)

total_above : (f : Pt → ℤ) (ws : List ℕ) (ps : List Pt) → length ws ≡ length ps → 0 < sum ws → AllByRecursion (λ p. pos 0 <ℤ f p) ps → pos 0 <ℤ total f ws ps
total_above f [] ps e s h = absurd (omega (arith, s))
total_above f (w ∷ ws) [] e s h = absurd (omega (arith, e))
total_above f (zero ∷ ws) (p ∷ ps) e s h = let a = weighed_nonneg zero (f p) h.0 in let b = total_above f ws ps (omega (arith, e)) (omega (arith, s)) h.1 in omega (arith, ints)
total_above f (suc w ∷ ws) (p ∷ ps) e s h = let a = weighed_pos w (f p) h.0 in let b = total_nonneg f ws ps h.1 in omega (arith, ints)

-- a line that is above 0 at all points is above 0 at their means
mean_above : (a b c : ℤ) (ps : List Pt) (r : Point) → IsMeanOf ps r → AllByRecursion (λ p. pos 0 <ℤ line a b c p) ps → pos 0 <ℤ value_at a b c r
mean_above a b c ps r m h =
    let t = total_above (line a b c) m.weights ps m.one_each m.weighed h in
    let e = value_of_mean a b c ps r m in
    let d = mul-pos (pos r.d) (total (line a b c) m.weights ps) (let z = r.positive in omega (arith, ints)) t in
    pos-of-mul (pos (sum m.weights)) (value_at a b c r) (let z = m.weighed in omega (arith, ints)) (let k = *ℤ_comm (value_at a b c r) (pos (sum m.weights)) in omega (arith, ints))

neg_line : (a b c : ℤ) (p : Pt) → line (neg_ℤ a) (neg_ℤ b) (neg_ℤ c) p ≡ neg_ℤ (line a b c p)
neg_line a b c p = ring a b c p.x p.y
  where
    ring : (a b c x y : ℤ) → neg_ℤ a *ℤ x +ℤ neg_ℤ b *ℤ y +ℤ neg_ℤ c *ℤ pos 1 ≡ neg_ℤ (a *ℤ x +ℤ b *ℤ y +ℤ c *ℤ pos 1)
    ring a b c x y = by_ring (a ∷ b ∷ c ∷ x ∷ y ∷ []) _ _ (search quoting depth 40 fits 100000) (search quoting depth 40 fits 100000) tt

all_negated : (a b c : ℤ) (ps : List Pt) → AllByRecursion (λ p. line a b c p <ℤ pos 0) ps → AllByRecursion (λ p. pos 0 <ℤ line (neg_ℤ a) (neg_ℤ b) (neg_ℤ c) p) ps
all_negated a b c [] h = tt
all_negated a b c (p ∷ ps) h = (let e = neg_line a b c p in let k = h.0 in omega (arith, ints), all_negated a b c ps h.1)

mean_below : (a b c : ℤ) (ps : List Pt) (r : Point) → IsMeanOf ps r → AllByRecursion (λ p. line a b c p <ℤ pos 0) ps → value_at a b c r <ℤ pos 0
mean_below a b c ps r m h =
    let k = mean_above (neg_ℤ a) (neg_ℤ b) (neg_ℤ c) ps r m (all_negated a b c ps h) in
    let e = neg_value a b c r in
    omega (arith, ints)

-- ---- left and right ends
lefts_by : (e : EndAt) (ends : List EndAt) (P : Pt → Type 0) (b : Bool) → (b ≡ true → P e.at) → AllByRecursion P (left_ends ends) → AllByRecursion P (cons_option (if b then Some e.at else None) (left_ends ends))
lefts_by e ends P true h t = (h refl, t)
lefts_by e ends P false h t = t

rights_by : (e : EndAt) (ends : List EndAt) (P : Pt → Type 0) (b : Bool) → (b ≡ false → P e.at) → AllByRecursion P (right_ends ends) → AllByRecursion P (cons_option (if b then None else Some e.at) (right_ends ends))
rights_by e ends P true h t = t
rights_by e ends P false h t = (h refl, t)

all_lefts : (ends : List EndAt) (P : Pt → Type 0) → AllByRecursion (λ e. e.code < RIGHT_END → P e.at) ends → AllByRecursion P (left_ends ends)
all_lefts [] P h = tt
all_lefts (e ∷ ends) P h = lefts_by e ends P (nat_lt e.code RIGHT_END) (λ k. h.0 (ltb-true e.code RIGHT_END k)) (all_lefts ends P h.1)

all_rights : (ends : List EndAt) (P : Pt → Type 0) → AllByRecursion (λ e. RIGHT_END ≤ e.code → P e.at) ends → AllByRecursion P (right_ends ends)
all_rights [] P h = tt
all_rights (e ∷ ends) P h = rights_by e ends P (nat_lt e.code RIGHT_END) (λ k. h.0 (ltb-false e.code RIGHT_END k)) (all_rights ends P h.1)

each_left : (a b c : ℤ) (ends : List EndAt) → PartsEnds ends a b c → AllByRecursion (λ e. e.code < RIGHT_END → pos 0 <ℤ line a b c e.at) ends
each_left a b c [] h = tt
each_left a b c (e ∷ ends) h = (h.0.left, each_left a b c ends h.1)

each_right : (a b c : ℤ) (ends : List EndAt) → PartsEnds ends a b c → AllByRecursion (λ e. RIGHT_END ≤ e.code → line a b c e.at <ℤ pos 0) ends
each_right a b c [] h = tt
each_right a b c (e ∷ ends) h = (h.0.right, each_right a b c ends h.1)

-- ends that a line parts aren't stuck
pub parted_not_stuck : (ends : List EndAt) → AreEndsParted ends → AreStuck ends → ⊥
parted_not_stuck ends (a, b, c, h) (r, m, n) =
    let u = mean_above a b c (left_ends ends) r m (all_lefts ends (λ p. pos 0 <ℤ line a b c p) (each_left a b c ends h)) in
    let v = mean_below a b c (right_ends ends) r n (all_rights ends (λ p. line a b c p <ℤ pos 0) (each_right a b c ends h)) in
    omega (arith, ints)

-- ---- membership
abbrev pub In : Pt → List Pt → Type 0
In p [] = ⊥
In p (q ∷ qs) = (q ≡ p) ⊎ In p qs

in_lefts_by : (p : Pt) (e : EndAt) (ends : List EndAt) (b : Bool) → In p (left_ends ends) → In p (cons_option (if b then Some e.at else None) (left_ends ends))
in_lefts_by p e ends true h = inr h
in_lefts_by p e ends false h = h

in_rights_by : (p : Pt) (e : EndAt) (ends : List EndAt) (b : Bool) → In p (right_ends ends) → In p (cons_option (if b then None else Some e.at) (right_ends ends))
in_rights_by p e ends true h = h
in_rights_by p e ends false h = inr h

here_left : (e : EndAt) (ends : List EndAt) (b : Bool) → b ≡ true → In e.at (cons_option (if b then Some e.at else None) (left_ends ends))
here_left e ends true k = inl refl
here_left e ends false k = absurd (wrong k)
  where
    wrong : false ≡ true → ⊥
    wrong h = cc

here_right : (e : EndAt) (ends : List EndAt) (b : Bool) → b ≡ false → In e.at (cons_option (if b then None else Some e.at) (right_ends ends))
here_right e ends false k = inl refl
here_right e ends true k = absurd (wrong k)
  where
    wrong : true ≡ false → ⊥
    wrong h = cc

pub in_lefts : (ends : List EndAt) (k : ℕ) (e : EndAt) → e.code < RIGHT_END → slice_get ends k ≡ Some e → In e.at (left_ends ends)
in_lefts [] k e h g = absurd (none_is_not_some e g)
in_lefts (d ∷ ends) zero e h g = subst (λ (d : EndAt). In e.at (left_ends (d ∷ ends))) (sym (some_is_same d e g)) (here_left e ends (nat_lt e.code RIGHT_END) (lt-ltb e.code RIGHT_END h))
in_lefts (d ∷ ends) (suc k) e h g = in_lefts_by e.at d ends (nat_lt d.code RIGHT_END) (in_lefts ends k e h g)

pub in_rights : (ends : List EndAt) (k : ℕ) (e : EndAt) → RIGHT_END ≤ e.code → slice_get ends k ≡ Some e → In e.at (right_ends ends)
in_rights [] k e h g = absurd (none_is_not_some e g)
in_rights (d ∷ ends) zero e h g = subst (λ (d : EndAt). In e.at (right_ends (d ∷ ends))) (sym (some_is_same d e g)) (here_right e ends (nat_lt e.code RIGHT_END) (le-ltb e.code RIGHT_END h))
in_rights (d ∷ ends) (suc k) e h g = in_rights_by e.at d ends (nat_lt d.code RIGHT_END) (in_rights ends k e h g)

-- ---- weights for all points from weights for some of them
pub record AsMean (xs : List Pt) (s : ℕ) (x y : ℤ) : Type 0 where
  pub weights : List ℕ
  pub one_each : length weights ≡ length xs
  pub weight : sum weights ≡ s
  pub x_is : weighed_x weights xs ≡ x
  pub y_is : weighed_y weights xs ≡ y

no_weights : (xs : List Pt) → AsMean xs 0 (pos 0) (pos 0)
no_weights [] = record { weights = []; one_each = refl; weight = refl; x_is = refl; y_is = refl }
no_weights (p ∷ xs) = let m = no_weights xs in record {
  weights = 0 ∷ m.weights;
  one_each = (let e = m.one_each in omega (arith, e));
  weight = (let e = m.weight in omega (arith, e));
  x_is = zero_more p.x (weighed_x m.weights xs) m.x_is;
  y_is = zero_more p.y (weighed_y m.weights xs) m.y_is;
}
  where
    zero_more : (a t : ℤ) → t ≡ pos 0 → pos 0 *ℤ a +ℤ t ≡ pos 0
    zero_more a t h = let z : pos 0 *ℤ a ≡ pos 0 = omega (arith, ints) in omega (arith, ints)

more_ring : (w v a t : ℤ) → (w +ℤ v) *ℤ a +ℤ t ≡ w *ℤ a +ℤ (v *ℤ a +ℤ t)
more_ring w v a t = by_ring (w ∷ v ∷ a ∷ t ∷ []) _ _ (search quoting depth 40 fits 100000) (search quoting depth 40 fits 100000) tt

swap_ring : (w a v b t : ℤ) → v *ℤ b +ℤ (w *ℤ a +ℤ t) ≡ w *ℤ a +ℤ (v *ℤ b +ℤ t)
swap_ring w a v b t = by_ring (w ∷ a ∷ v ∷ b ∷ t ∷ []) _ _ (search quoting depth 40 fits 100000) (search quoting depth 40 fits 100000) tt

-- one point's weight is raised
raised : (w : ℕ) (p : Pt) (xs : List Pt) (vs : List ℕ) → In p xs → length vs ≡ length xs → AsMean xs (w + sum vs) (pos w *ℤ p.x +ℤ weighed_x vs xs) (pos w *ℤ p.y +ℤ weighed_y vs xs)
raised w p [] vs i e = absurd i
raised w p (q ∷ xs) [] i e = absurd (omega (arith, e))
raised w p (q ∷ xs) (v ∷ vs) (inl h) e = record {
  weights = (w + v) ∷ vs;
  one_each = e;
  weight = (let a = sum_cons (w + v) vs in let b = sum_cons v vs in omega (arith, a, b));
  x_is = more_ring (pos w) (pos v) q.x (weighed_x vs xs) ∙ ap (λ (t : Pt). pos w *ℤ t.x +ℤ (pos v *ℤ q.x +ℤ weighed_x vs xs)) h;
  y_is = more_ring (pos w) (pos v) q.y (weighed_y vs xs) ∙ ap (λ (t : Pt). pos w *ℤ t.y +ℤ (pos v *ℤ q.y +ℤ weighed_y vs xs)) h;
}
raised w p (q ∷ xs) (v ∷ vs) (inr i) e = let m = raised w p xs vs i (omega (arith, e)) in record {
  weights = v ∷ m.weights;
  one_each = (let k = m.one_each in omega (arith, k));
  weight = (let k = m.weight in let a = sum_cons v m.weights in let b = sum_cons v vs in omega (arith, k, a, b));
  x_is = ap (λ (t : ℤ). pos v *ℤ q.x +ℤ t) m.x_is ∙ swap_ring (pos w) p.x (pos v) q.x (weighed_x vs xs);
  y_is = ap (λ (t : ℤ). pos v *ℤ q.y +ℤ t) m.y_is ∙ swap_ring (pos w) p.y (pos v) q.y (weighed_y vs xs);
}

as_mean : (xs ps : List Pt) (ws : List ℕ) → length ws ≡ length ps → AllByRecursion (λ p. In p xs) ps → AsMean xs (sum ws) (weighed_x ws ps) (weighed_y ws ps)
as_mean xs [] [] e h = no_weights xs
as_mean xs [] (w ∷ ws) e h = absurd (omega (arith, e))
as_mean xs (p ∷ ps) [] e h = absurd (omega (arith, e))
as_mean xs (p ∷ ps) (w ∷ ws) e h =
    let m = as_mean xs ps ws (omega (arith, e)) h.1 in
    let r = raised w p xs m.weights h.0 m.one_each in
    record {
      weights = r.weights;
      one_each = r.one_each;
      weight = r.weight ∙ ap (λ (n : ℕ). w + n) m.weight ∙ sym (sum_cons w ws);
      x_is = r.x_is ∙ ap (λ (t : ℤ). pos w *ℤ p.x +ℤ t) m.x_is;
      y_is = r.y_is ∙ ap (λ (t : ℤ). pos w *ℤ p.y +ℤ t) m.y_is;
    }

-- a mean of some points is a mean of all
mean_of_all : (xs : List Pt) (s : ℕ) (x y : ℤ) (h : 0 < s) → AsMean xs s x y → IsMeanOf xs (record { x = x; y = y; d = s; positive = h })
mean_of_all xs s x y h m = record {
  weights = m.weights;
  one_each = m.one_each;
  weighed = subst (λ (n : ℕ). 0 < n) (sym m.weight) h;
  x = ap (λ (n : ℕ). x *ℤ pos n) m.weight ∙ ap (λ (t : ℤ). t *ℤ pos s) (sym m.x_is);
  y = ap (λ (n : ℕ). y *ℤ pos n) m.weight ∙ ap (λ (t : ℤ). t *ℤ pos s) (sym m.y_is);
}

-- a mean of points is a mean of any points that have them among them
pub mean_more : (xs ps : List Pt) (r : Point) → AllByRecursion (λ p. In p xs) ps → IsMeanOf ps r → IsMeanOf xs r
mean_more xs ps r h m = let a = as_mean xs ps m.weights m.one_each h in record {
  weights = a.weights;
  one_each = a.one_each;
  weighed = subst (λ (n : ℕ). 0 < n) (sym a.weight) m.weighed;
  x = ap (λ (n : ℕ). r.x *ℤ pos n) a.weight ∙ m.x ∙ ap (λ (t : ℤ). t *ℤ pos r.d) (sym a.x_is);
  y = ap (λ (n : ℕ). r.y *ℤ pos n) a.weight ∙ m.y ∙ ap (λ (t : ℤ). t *ℤ pos r.d) (sym a.y_is);
}

-- a mean of the ones and of the others with the same weight
pub means_meet : (ls rs : List Pt) (s : ℕ) (x y : ℤ) → 0 < s → AsMean ls s x y → AsMean rs s x y → HullsMeet ls rs
means_meet ls rs s x y h m n = (record { x = x; y = y; d = s; positive = h }, mean_of_all ls s x y h m, mean_of_all rs s x y h n)

abbrev pub lefts : List EndPair → List Pt
lefts ps = map (λ (p : EndPair). p.left.at) ps

abbrev pub rights : List EndPair → List Pt
rights ps = map (λ (p : EndPair). p.right.at) ps

apart_ring : (w a b t u : ℤ) → w *ℤ (a -ℤ b) +ℤ (t -ℤ u) ≡ (w *ℤ a +ℤ t) -ℤ (w *ℤ b +ℤ u)
apart_ring w a b t u = by_ring (w ∷ a ∷ b ∷ t ∷ u ∷ []) _ _ (search quoting depth 40 fits 100000) (search quoting depth 40 fits 100000) tt

across_apart : (ws : List ℕ) (ps : List EndPair) → weighed across ws ps ≡ weighed_x ws (lefts ps) -ℤ weighed_x ws (rights ps)
across_apart [] [] = refl
across_apart [] (p ∷ ps) = refl
across_apart (w ∷ ws) [] = refl
across_apart (w ∷ ws) (p ∷ ps) = ap (λ (t : ℤ). pos w *ℤ across p +ℤ t) (across_apart ws ps) ∙ apart_ring (pos w) p.left.at.x p.right.at.x (weighed_x ws (lefts ps)) (weighed_x ws (rights ps))

up_apart : (ws : List ℕ) (ps : List EndPair) → weighed up ws ps ≡ weighed_y ws (lefts ps) -ℤ weighed_y ws (rights ps)
up_apart [] [] = refl
up_apart [] (p ∷ ps) = refl
up_apart (w ∷ ws) [] = refl
up_apart (w ∷ ws) (p ∷ ps) = ap (λ (t : ℤ). pos w *ℤ up p +ℤ t) (up_apart ws ps) ∙ apart_ring (pos w) p.left.at.y p.right.at.y (weighed_y ws (lefts ps)) (weighed_y ws (rights ps))

same_of_apart : (a b d : ℤ) → d ≡ a -ℤ b → d ≡ pos 0 → a ≡ b
same_of_apart a b d e f = omega (arith, ints)

lefts_many : (ps : List EndPair) → length (lefts ps) ≡ length ps
lefts_many [] = refl
lefts_many (p ∷ ps) = let h = lefts_many ps in omega (arith, h)

rights_many : (ps : List EndPair) → length (rights ps) ≡ length ps
rights_many [] = refl
rights_many (p ∷ ps) = let h = rights_many ps in omega (arith, h)

-- balanced pairs of ends show that the hulls meet
pub balanced_meet : (ls rs : List Pt) (ps : List EndPair) → AreBalanced ps → AllByRecursion (λ p. In p ls) (lefts ps) → AllByRecursion (λ p. In p rs) (rights ps) → HullsMeet ls rs
balanced_meet ls rs ps b i j = means_meet ls rs (sum b.weights) (weighed_x b.weights (lefts ps)) (weighed_y b.weights (lefts ps)) b.weighty
    (as_mean ls (lefts ps) b.weights (b.one_each ∙ sym (lefts_many ps)) i)
    (subst₂ (λ (x y : ℤ). AsMean rs (sum b.weights) x y) (sym (same_of_apart _ _ _ (across_apart b.weights ps) b.x)) (sym (same_of_apart _ _ _ (up_apart b.weights ps) b.y)) (as_mean rs (rights ps) b.weights (b.one_each ∙ sym (rights_many ps)) j))
