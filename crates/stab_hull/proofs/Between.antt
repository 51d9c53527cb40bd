-- Points between two others on a line: what a wedge has of the lines to both, it has of the line to such a point.
use Rattle.std.proofs.Common.{ℤ, pos, ◌+ℤ◌, ◌-ℤ◌, ◌*ℤ◌, neg_ℤ, nat_abs, ◌+◌, ◌≡◌, inl, inr, sym, ap, ap₂, ◌∙◌, [], ◌∷◌, arith, ◌≤ℤ◌, subst}
use Rattle.std.proofs.lemmas.Int.{ints}
use Rattle.math_base.proofs.Quoting.{quoting, by_ring}
use Rattle.math_base.proofs.Signs.{mul-nonneg, nonneg-of-mul, le_or_lt}
use Rattle.math_base.proofs.Ring.{same_of_difference}
use Rattle.math_base.proofs.Small.{zero_by_first}
use Rattle.plane_base.proofs.Turns.{dot_nonneg, no_length}
use Rattle.plane_base.specs.Arrows.{Arrow, cross, dot}
use Rattle.sight_names.specs.declared.names.Pt.{Pt}
use Rattle.geom_exact.specs.declared.extreme_lines.wedge.Wedge.{Wedge}
use Rattle.geom_exact.specs.declared.extreme_lines.cone.Cone.TheVariants.{Open}
use Rattle.geom_exact.specs.ExtremeLines.Differences.{difference}
use Rattle.geom_exact.specs.ExtremeLines.Spans.{arrow_of, Spans}
use Rattle.stab_hull.specs.Chains.{LiesBetween}

-- what lies between a and b lies between a and c, where b does
pub further : (a i b c : Pt) → LiesBetween a i b → LiesBetween a b c → LiesBetween a i c
further a i b c h k = λ p q m l r. h p q m l (k p q m l r)

-- what a linear form says of a point
abbrev pub form : ℤ → ℤ → Pt → ℤ
form p q u = p *ℤ u.x +ℤ q *ℤ u.y

-- ---- a bound that the second form has where the first one is 0
lifted : (least x t n : ℤ) → pos 0 ≤ℤ t → (t ≡ pos 0 → least ≤ℤ x) → pos 0 ≤ℤ n → (least -ℤ x) ≤ℤ n → least ≤ℤ (x +ℤ n *ℤ t)
lifted least x t n ht h hn k = elim (le_or_lt t (pos 0)) as (λ _. least ≤ℤ (x +ℤ n *ℤ t)) [
  | inl z ↦ let w : t ≡ pos 0 = omega (arith, ints) in let e = ap (λ (v : ℤ). n *ℤ v) w ∙ none n in let l = h w in omega (arith, ints)
  | inr l ↦ let e = more n t in let m = mul-nonneg n (t -ℤ pos 1) hn (omega (arith, ints)) in omega (arith, ints)
]
  where
    more : (n t : ℤ) → n *ℤ t ≡ n +ℤ n *ℤ (t -ℤ pos 1)
    more n t = by_ring (n ∷ t ∷ []) _ _ (search quoting depth 40 fits 100000) (search quoting depth 40 fits 100000) tt

    none : (n : ℤ) → n *ℤ pos 0 ≡ pos 0
    none n = by_ring (n ∷ []) _ _ (search quoting depth 40 fits 100000) (search quoting depth 40 fits 100000) tt

both_forms : (n p q k l x y : ℤ) → (k *ℤ x +ℤ l *ℤ y) +ℤ n *ℤ (p *ℤ x +ℤ q *ℤ y) ≡ (k +ℤ n *ℤ p) *ℤ x +ℤ (l +ℤ n *ℤ q) *ℤ y
both_forms n p q k l x y = by_ring (n ∷ p ∷ q ∷ k ∷ l ∷ x ∷ y ∷ []) _ _ (search quoting depth 40 fits 100000) (search quoting depth 40 fits 100000) tt

apart : (n t s : ℤ) → n *ℤ (t -ℤ s) ≡ n *ℤ t -ℤ n *ℤ s
apart n t s = by_ring (n ∷ t ∷ s ∷ []) _ _ (search quoting depth 40 fits 100000) (search quoting depth 40 fits 100000) tt

pub least_between : (p q s k l u least : ℤ) (a b c : Pt) → LiesBetween a b c → pos 0 ≤ℤ (form p q a -ℤ s) → pos 0 ≤ℤ (form p q c -ℤ s) → ((form p q a -ℤ s) ≡ pos 0 → least ≤ℤ (form k l a -ℤ u)) → ((form p q c -ℤ s) ≡ pos 0 → least ≤ℤ (form k l c -ℤ u)) → (form p q b -ℤ s) ≡ pos 0 → least ≤ℤ (form k l b -ℤ u)
least_between p q s k l u least a b c h ta tc fa fc z =
    let n = pos (nat_abs (least -ℤ (form k l a -ℤ u)) + nat_abs (least -ℤ (form k l c -ℤ u))) in
    let la = lifted least (form k l a -ℤ u) (form p q a -ℤ s) n ta fa (omega (arith, ints)) (omega (arith, ints)) in
    let lc = lifted least (form k l c -ℤ u) (form p q c -ℤ s) n tc fc (omega (arith, ints)) (omega (arith, ints)) in
    let ea = both_forms n p q k l a.x a.y in
    let eb = both_forms n p q k l b.x b.y in
    let ec = both_forms n p q k l c.x c.y in
    let da = apart n (form p q a) s in
    let dc = apart n (form p q c) s in
    let db = ap (λ (v : ℤ). n *ℤ v) (level (form p q b) s z) in
    let m = h (k +ℤ n *ℤ p) (l +ℤ n *ℤ q) (least +ℤ u +ℤ n *ℤ s) (omega (arith, ints)) (omega (arith, ints)) in
    omega (arith, ints)
  where
    level : (v s : ℤ) → v -ℤ s ≡ pos 0 → v ≡ s
    level v s z = omega (arith, ints)

-- ---- a wedge's four clauses as such forms
cross_after : (d : Arrow) (p r : Pt) → cross d (difference p r) ≡ form (neg_ℤ d.y) d.x p -ℤ form (neg_ℤ d.y) d.x r
unfolding cross
cross_after d p r = by_ring (d.x ∷ d.y ∷ p.x ∷ p.y ∷ r.x ∷ r.y ∷ []) _ _ (search quoting depth 40 fits 100000) (search quoting depth 40 fits 100000) tt

cross_before : (f : Arrow) (p r : Pt) → cross (difference p r) f ≡ form f.y (neg_ℤ f.x) p -ℤ form f.y (neg_ℤ f.x) r
unfolding cross
cross_before f p r = by_ring (f.x ∷ f.y ∷ p.x ∷ p.y ∷ r.x ∷ r.y ∷ []) _ _ (search quoting depth 40 fits 100000) (search quoting depth 40 fits 100000) tt

dot_form : (d : Arrow) (p r : Pt) → dot d (difference p r) ≡ form d.x d.y p -ℤ form d.x d.y r
unfolding dot
dot_form d p r = by_ring (d.x ∷ d.y ∷ p.x ∷ p.y ∷ r.x ∷ r.y ∷ []) _ _ (search quoting depth 40 fits 100000) (search quoting depth 40 fits 100000) tt

moved_bound : (p q s : ℤ) (a b c : Pt) → LiesBetween a b c → pos 0 ≤ℤ (form p q a -ℤ s) → pos 0 ≤ℤ (form p q c -ℤ s) → pos 0 ≤ℤ (form p q b -ℤ s)
moved_bound p q s a b c h k l = let m = h p q s (omega (arith, ints)) (omega (arith, ints)) in omega (arith, ints)

-- from a point to points between two ends
pub spans_left : (w : Wedge) (a b c r : Pt) → LiesBetween a b c → Spans (Open w) (difference a r) → Spans (Open w) (difference c r) → Spans (Open w) (difference b r)
spans_left w a b c r h sa sc =
    let d = arrow_of w.first in
    let f = arrow_of w.second in
    let nonneg : (x y : ℤ) → x ≡ y → pos 0 ≤ℤ x → pos 0 ≤ℤ y = λ x y e l. subst (λ (v : ℤ). pos 0 ≤ℤ v) e l in
    record {
      after = subst (λ (v : ℤ). pos 0 ≤ℤ v) (sym (cross_after d b r)) (moved_bound (neg_ℤ d.y) d.x (form (neg_ℤ d.y) d.x r) a b c h (nonneg _ _ (cross_after d a r) sa.after) (nonneg _ _ (cross_after d c r) sc.after));
      before = subst (λ (v : ℤ). pos 0 ≤ℤ v) (sym (cross_before f b r)) (moved_bound f.y (neg_ℤ f.x) (form f.y (neg_ℤ f.x) r) a b c h (nonneg _ _ (cross_before f a r) sa.before) (nonneg _ _ (cross_before f c r) sc.before));
      far_after = λ z. subst (λ (v : ℤ). dot d d ≤ℤ v) (sym (dot_form d b r)) (least_between (neg_ℤ d.y) d.x (form (neg_ℤ d.y) d.x r) d.x d.y (form d.x d.y r) (dot d d) a b c h (nonneg _ _ (cross_after d a r) sa.after) (nonneg _ _ (cross_after d c r) sc.after)
          (λ e. subst (λ (v : ℤ). dot d d ≤ℤ v) (dot_form d a r) (sa.far_after (cross_after d a r ∙ e))) (λ e. subst (λ (v : ℤ). dot d d ≤ℤ v) (dot_form d c r) (sc.far_after (cross_after d c r ∙ e))) (sym (cross_after d b r) ∙ z));
      far_before = λ z. subst (λ (v : ℤ). dot f f ≤ℤ v) (sym (dot_form f b r)) (least_between f.y (neg_ℤ f.x) (form f.y (neg_ℤ f.x) r) f.x f.y (form f.x f.y r) (dot f f) a b c h (nonneg _ _ (cross_before f a r) sa.before) (nonneg _ _ (cross_before f c r) sc.before)
          (λ e. subst (λ (v : ℤ). dot f f ≤ℤ v) (dot_form f a r) (sa.far_before (cross_before f a r ∙ e))) (λ e. subst (λ (v : ℤ). dot f f ≤ℤ v) (dot_form f c r) (sc.far_before (cross_before f c r ∙ e))) (sym (cross_before f b r) ∙ z));
    }

-- and from points between two ends to a point
right_after : (d : Arrow) (p l : Pt) → cross d (difference l p) ≡ form d.y (neg_ℤ d.x) p -ℤ form d.y (neg_ℤ d.x) l
unfolding cross
right_after d p l = by_ring (d.x ∷ d.y ∷ p.x ∷ p.y ∷ l.x ∷ l.y ∷ []) _ _ (search quoting depth 40 fits 100000) (search quoting depth 40 fits 100000) tt

right_before : (f : Arrow) (p l : Pt) → cross (difference l p) f ≡ form (neg_ℤ f.y) f.x p -ℤ form (neg_ℤ f.y) f.x l
unfolding cross
right_before f p l = by_ring (f.x ∷ f.y ∷ p.x ∷ p.y ∷ l.x ∷ l.y ∷ []) _ _ (search quoting depth 40 fits 100000) (search quoting depth 40 fits 100000) tt

right_dot : (d : Arrow) (p l : Pt) → dot d (difference l p) ≡ form (neg_ℤ d.x) (neg_ℤ d.y) p -ℤ form (neg_ℤ d.x) (neg_ℤ d.y) l
unfolding dot
right_dot d p l = by_ring (d.x ∷ d.y ∷ p.x ∷ p.y ∷ l.x ∷ l.y ∷ []) _ _ (search quoting depth 40 fits 100000) (search quoting depth 40 fits 100000) tt

pub spans_right : (w : Wedge) (a b c l : Pt) → LiesBetween a b c → Spans (Open w) (difference l a) → Spans (Open w) (difference l c) → Spans (Open w) (difference l b)
spans_right w a b c r h sa sc =
    let d = arrow_of w.first in
    let f = arrow_of w.second in
    let nonneg : (x y : ℤ) → x ≡ y → pos 0 ≤ℤ x → pos 0 ≤ℤ y = λ x y e l. subst (λ (v : ℤ). pos 0 ≤ℤ v) e l in
    record {
      after = subst (λ (v : ℤ). pos 0 ≤ℤ v) (sym (right_after d b r)) (moved_bound d.y (neg_ℤ d.x) (form d.y (neg_ℤ d.x) r) a b c h (nonneg _ _ (right_after d a r) sa.after) (nonneg _ _ (right_after d c r) sc.after));
      before = subst (λ (v : ℤ). pos 0 ≤ℤ v) (sym (right_before f b r)) (moved_bound (neg_ℤ f.y) f.x (form (neg_ℤ f.y) f.x r) a b c h (nonneg _ _ (right_before f a r) sa.before) (nonneg _ _ (right_before f c r) sc.before));
      far_after = λ z. subst (λ (v : ℤ). dot d d ≤ℤ v) (sym (right_dot d b r)) (least_between d.y (neg_ℤ d.x) (form d.y (neg_ℤ d.x) r) (neg_ℤ d.x) (neg_ℤ d.y) (form (neg_ℤ d.x) (neg_ℤ d.y) r) (dot d d) a b c h (nonneg _ _ (right_after d a r) sa.after) (nonneg _ _ (right_after d c r) sc.after)
          (λ e. subst (λ (v : ℤ). dot d d ≤ℤ v) (right_dot d a r) (sa.far_after (right_after d a r ∙ e))) (λ e. subst (λ (v : ℤ). dot d d ≤ℤ v) (right_dot d c r) (sc.far_after (right_after d c r ∙ e))) (sym (right_after d b r) ∙ z));
      far_before = λ z. subst (λ (v : ℤ). dot f f ≤ℤ v) (sym (right_dot f b r)) (least_between (neg_ℤ f.y) f.x (form (neg_ℤ f.y) f.x r) (neg_ℤ f.x) (neg_ℤ f.y) (form (neg_ℤ f.x) (neg_ℤ f.y) r) (dot f f) a b c h (nonneg _ _ (right_before f a r) sa.before) (nonneg _ _ (right_before f c r) sc.before)
          (λ e. subst (λ (v : ℤ). dot f f ≤ℤ v) (right_dot f a r) (sa.far_before (right_before f a r ∙ e))) (λ e. subst (λ (v : ℤ). dot f f ≤ℤ v) (right_dot f c r) (sc.far_before (right_before f c r ∙ e))) (sym (right_before f b r) ∙ z));
    }

-- ---- a point on the way from one to another lies between them
-- the three products that weigh the points, where no turn is
weighed : (p q m : ℤ) (a b c : Pt) → dot (difference c a) (difference c a) *ℤ (form p q b -ℤ m) ≡ dot (difference c b) (difference c a) *ℤ (form p q a -ℤ m) +ℤ dot (difference b a) (difference c a) *ℤ (form p q c -ℤ m) -ℤ cross (difference b a) (difference c b) *ℤ (q *ℤ (c.x -ℤ a.x) -ℤ p *ℤ (c.y -ℤ a.y))
unfolding cross dot
weighed p q m a b c = by_ring (p ∷ q ∷ m ∷ a.x ∷ a.y ∷ b.x ∷ b.y ∷ c.x ∷ c.y ∷ []) _ _ (search quoting depth 60 fits 400000) (search quoting depth 60 fits 400000) tt

whole : (a b c : Pt) → dot (difference c a) (difference c a) ≡ dot (difference c b) (difference c a) +ℤ dot (difference b a) (difference c a)
unfolding dot
whole a b c = by_ring (a.x ∷ a.y ∷ b.x ∷ b.y ∷ c.x ∷ c.y ∷ []) _ _ (search quoting depth 60 fits 400000) (search quoting depth 60 fits 400000) tt

far_part : (a b c : Pt) → dot (difference c b) (difference c a) ≡ dot (difference c b) (difference c b) +ℤ dot (difference b a) (difference c b)
unfolding dot
far_part a b c = by_ring (a.x ∷ a.y ∷ b.x ∷ b.y ∷ c.x ∷ c.y ∷ []) _ _ (search quoting depth 60 fits 400000) (search quoting depth 60 fits 400000) tt

near_part : (a b c : Pt) → dot (difference b a) (difference c a) ≡ dot (difference b a) (difference b a) +ℤ dot (difference b a) (difference c b)
unfolding dot
near_part a b c = by_ring (a.x ∷ a.y ∷ b.x ∷ b.y ∷ c.x ∷ c.y ∷ []) _ _ (search quoting depth 60 fits 400000) (search quoting depth 60 fits 400000) tt

same_form : (p q m : ℤ) (a b : Pt) → (b.x -ℤ a.x) ≡ pos 0 → (b.y -ℤ a.y) ≡ pos 0 → form p q b ≡ form p q a
same_form p q m a b hx hy = ap₂ (λ (x y : ℤ). p *ℤ x +ℤ q *ℤ y) (same_of_difference b.x a.x hx) (same_of_difference b.y a.y hy)

pub lies_between : (a b c : Pt) → cross (difference b a) (difference c b) ≡ pos 0 → pos 0 ≤ℤ dot (difference b a) (difference c b) → LiesBetween a b c
lies_between a b c flat ahead = λ p q m la lc.
    let w = weighed p q m a b c in
    let sum = whole a b c in
    let s = far_part a b c in
    let t = near_part a b c in
    let vv = dot_nonneg (difference c b) in
    let uu = dot_nonneg (difference b a) in
    let z = zero_by_first (cross (difference b a) (difference c b)) (q *ℤ (c.x -ℤ a.x) -ℤ p *ℤ (c.y -ℤ a.y)) flat in
    let ma = mul-nonneg (dot (difference c b) (difference c a)) (form p q a -ℤ m) (omega (arith, ints)) (omega (arith, ints)) in
    let mc = mul-nonneg (dot (difference b a) (difference c a)) (form p q c -ℤ m) (omega (arith, ints)) (omega (arith, ints)) in
    elim (le_or_lt (dot (difference c a) (difference c a)) (pos 0)) as (λ _. m ≤ℤ form p q b) [
      | inl n ↦ let k = no_length (difference b a) (omega (arith, ints)) in let e = same_form p q m a b k.0 k.1 in omega (arith, ints)
      | inr n ↦ let k = nonneg-of-mul (dot (difference c a) (difference c a)) (form p q b -ℤ m) n (omega (arith, ints)) in omega (arith, ints)
    ]
