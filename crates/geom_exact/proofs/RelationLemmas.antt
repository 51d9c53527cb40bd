-- From the signs of the four turns to what two segments have in common.
use Rattle.std.proofs.Common.{ℤ, pos, negsuc, ◌+ℤ◌, ◌-ℤ◌, ◌*ℤ◌, neg_ℤ, ◌<ℤ◌, ◌≤ℤ◌, ◌≡◌, [], ◌∷◌, arith, refl, sym, ap, ap₂, ◌∙◌, subst, ◌⊎◌, inl, inr}
use Rattle.std.proofs.lemmas.Int.{ints}
use Rattle.math_base.proofs.Quoting.{quoting, by_ring, combine1, combine2}
use Rattle.math_base.proofs.Signs.{mul-nonneg, mul-pos, zero-of-mul, nonneg-of-mul, sign_cases, le_or_lt}
use Rattle.sight_names.specs.declared.names.Pt.{Pt}
use Rattle.sight_names.specs.Point.{Point, point_of, SamePoint, OnSegment}
use Rattle.sight_names.specs.Sound.{IsCommon, IsLineEnd}
use Rattle.geom_exact.proofs.SegmentLemmas.{IsOn, on, segment, other_way, same_reach, along-at, square_of-pos, beside, along, square_of, IsAlong, IsAlong-of-mean, IsOn-of-along, spread, only_meeting, beside-at, turn-of_same, beside-of_mean, along-of_mean, four_turns, meeting, meeting_is_on_first, meeting_is_on_second}
use Rattle.geom_exact.specs.declared.Relation.{Relation}
use Rattle.geom_exact.specs.declared.Relation.TheVariants.{Apart, Overlap, Ends, Touch, Cross}
use Rattle.geom_exact.specs.Formulas.{turn_of, reach_of, AreOnOneSide}
use Rattle.geom_exact.specs.Common.{IsOnlyCommon, IsRelation, AreLaid, IsMeeting}
use Rattle.math_base.proofs.Small.{same_without_one, lt_of_zero, le_of_zero, le_of_lt, pos_difference, le_of_difference, pos_not_zero, neg_not_zero}
use Rattle.math_base.proofs.MoreSigns.{sum-pos}
use Rattle.sight_names.proofs.Meets.{end_flip}
use Rattle.sight_names.proofs.Laws.{same_point_refl}
use Rattle.sight_names.proofs.Portals.{scale_above}
use Rattle.sight_names.proofs.Records.{same_pt}

pub common_swapped : (p q r s : Pt) (z : Point) → IsCommon p q r s z → IsCommon p q s r z
common_swapped p q r s z h = (h.0, other_way r s z h.1)

-- ---- one side
straight : (p q : Pt) (z : Point) → OnSegment (point_of p) (point_of q) z → beside p q z ≡ pos 0
straight p q z g = let h = on p q z g in (IsAlong-of-mean p q h.0 h.1 z h.2).straight

sum_neg : (m n a b : ℤ) → pos 0 ≤ℤ m → pos 0 ≤ℤ n → pos 0 <ℤ (m +ℤ n) → a <ℤ pos 0 → b <ℤ pos 0 → pos 0 <ℤ neg_ℤ (m *ℤ a +ℤ n *ℤ b)
sum_neg m n a b hm hn h ha hb =
    let e : m *ℤ neg_ℤ a +ℤ n *ℤ neg_ℤ b ≡ neg_ℤ (m *ℤ a +ℤ n *ℤ b) = by_ring (m ∷ n ∷ a ∷ b ∷ []) _ _ (search quoting depth 40 fits 100000) (search quoting depth 40 fits 100000) tt in
    subst (λ (t : ℤ). pos 0 <ℤ t) e (sum-pos m n (neg_ℤ a) (neg_ℤ b) hm hn h (omega (arith, ints)) (omega (arith, ints)))

no_zero_pos : (k b d w : ℤ) → b ≡ pos 0 → k *ℤ b ≡ d *ℤ w → pos 0 <ℤ d → pos 0 <ℤ w → ⊥
no_zero_pos k b d w z e hd hw =
    let p : pos 0 <ℤ (d *ℤ w) = mul-pos d w hd hw in
    let q : k *ℤ b ≡ pos 0 = combine1 k z (by_ring (k ∷ b ∷ []) _ _ (search quoting depth 40 fits 100000) (search quoting depth 40 fits 100000) tt) in
    omega (arith, ints)

no_zero_neg : (k b d w : ℤ) → b ≡ pos 0 → k *ℤ b ≡ d *ℤ w → pos 0 <ℤ d → pos 0 <ℤ neg_ℤ w → ⊥
no_zero_neg k b d w z e hd hw =
    let p : pos 0 <ℤ (d *ℤ neg_ℤ w) = mul-pos d (neg_ℤ w) hd hw in
    let q : k *ℤ b ≡ pos 0 = combine1 k z (by_ring (k ∷ b ∷ []) _ _ (search quoting depth 40 fits 100000) (search quoting depth 40 fits 100000) tt) in
    let r : d *ℤ neg_ℤ w ≡ neg_ℤ (d *ℤ w) = by_ring (d ∷ w ∷ []) _ _ (search quoting depth 40 fits 100000) (search quoting depth 40 fits 100000) tt in
    omega (arith, ints)

pub apart_on_side : (p q r s : Pt) → AreOnOneSide (turn_of p q r) (turn_of p q s) → IsRelation p q r s Apart
apart_on_side p q r s (inl h) z c =
    let g = on r s z c.1 in
    let k = g.2 in
    no_zero_pos (g.0 +ℤ g.1) (beside p q z) (pos z.d) _ (straight p q z c.0) (beside-of_mean p q r s _ _ z k) (scale_above z) (sum-pos _ _ _ _ k.first k.second k.weighted h.0 h.1)
apart_on_side p q r s (inr h) z c =
    let g = on r s z c.1 in
    let k = g.2 in
    no_zero_neg (g.0 +ℤ g.1) (beside p q z) (pos z.d) _ (straight p q z c.0) (beside-of_mean p q r s _ _ z k) (scale_above z) (sum_neg _ _ _ _ k.first k.second k.weighted h.0 h.1)

-- the other way round
pub apart_on_other_side : (p q r s : Pt) → AreOnOneSide (turn_of r s p) (turn_of r s q) → IsRelation p q r s Apart
apart_on_other_side p q r s h z c = apart_on_side r s p q h z (c.1, c.0)

-- ---- lines that meet
pub turn_at_first : (p q : Pt) → turn_of p q p ≡ pos 0
unfolding turn_of
turn_at_first p q = by_ring (p.x ∷ p.y ∷ q.x ∷ q.y ∷ []) _ _ (search quoting depth 40 fits 100000) (search quoting depth 40 fits 100000) tt

pub turn_at_second : (p q : Pt) → turn_of p q q ≡ pos 0
unfolding turn_of
turn_at_second p q = by_ring (p.x ∷ p.y ∷ q.x ∷ q.y ∷ []) _ _ (search quoting depth 40 fits 100000) (search quoting depth 40 fits 100000) tt

weak_sides : (a b : ℤ) → pos 0 <ℤ (a -ℤ b) → ¬ (AreOnOneSide a b) → (pos 0 ≤ℤ a) × (b ≤ℤ pos 0)
weak_sides a b h n = elim (le_or_lt (pos 0) a) as (λ _. (pos 0 ≤ℤ a) × (b ≤ℤ pos 0)) [
  | inl ha ↦ elim (le_or_lt b (pos 0)) as (λ _. (pos 0 ≤ℤ a) × (b ≤ℤ pos 0)) [
    | inl hb ↦ (ha, hb)
    | inr hb ↦ absurd (n (inl (omega (arith, ints), hb)))
  ]
  | inr ha ↦ absurd (n (inr (ha, omega (arith, ints))))
]

turned_sides : (a b : ℤ) → ¬ (AreOnOneSide a b) → ¬ (AreOnOneSide b a)
turned_sides a b n (inl h) = n (inl (h.1, h.0))
turned_sides a b n (inr h) = n (inr (h.1, h.0))

negative_sides : (a b c d : ℤ) → c ≡ neg_ℤ a → d ≡ neg_ℤ b → ¬ (AreOnOneSide a b) → ¬ (AreOnOneSide c d)
negative_sides a b c d e f n (inl h) = n (inr (omega (arith, ints), omega (arith, ints)))
negative_sides a b c d e f n (inr h) = n (inl (omega (arith, ints), omega (arith, ints)))

turn_negative : (r s p : Pt) → turn_of s r p ≡ neg_ℤ (turn_of r s p)
unfolding turn_of
turn_negative r s p = by_ring (p.x ∷ p.y ∷ r.x ∷ r.y ∷ s.x ∷ s.y ∷ []) _ _ (search quoting depth 40 fits 100000) (search quoting depth 40 fits 100000) tt

meets_from_left : (p q r s : Pt) → pos 0 <ℤ spread p q r s → ¬ (AreOnOneSide (turn_of p q r) (turn_of p q s)) → ¬ (AreOnOneSide (turn_of r s p) (turn_of r s q)) → (z : Point) × IsCommon p q r s z
meets_from_left p q r s h n m =
    let a = weak_sides (turn_of p q r) (turn_of p q s) h n in
    let b = weak_sides (turn_of r s q) (turn_of r s p) (subst (λ (t : ℤ). pos 0 <ℤ t) (sym (four_turns p q r s)) h) (turned_sides _ _ m) in
    let z = meeting p q r s h in
    (z, (segment p q z (meeting_is_on_first p q r s h b.0 b.1), segment r s z (meeting_is_on_second p q r s h a.0 a.1)))

pub meets : (p q r s : Pt) → ¬ ((turn_of p q r ≡ pos 0) × (turn_of p q s ≡ pos 0)) → ¬ (AreOnOneSide (turn_of p q r) (turn_of p q s)) → ¬ (AreOnOneSide (turn_of r s p) (turn_of r s q)) → (z : Point) × IsMeeting p q r s z
meets p q r s k n m = elim (sign_cases (spread p q r s)) as (λ _. (z : Point) × IsMeeting p q r s z) [
  | inl h ↦
      let w = meets_from_left p q s r (other_way (turn_of p q r) (turn_of p q s) h) (turned_sides _ _ n) (negative_sides (turn_of r s p) (turn_of r s q) _ _ (turn_negative r s p) (turn_negative r s q) m) in
      (w.0, record { crossing = neg_not_zero (spread p q r s) h; common = common_swapped p q s r w.0 w.1 })
  | inr c ↦ elim c as (λ _. (z : Point) × IsMeeting p q r s z) [
    | inl e ↦ absurd (parallel (turn_of p q r) (turn_of p q s) e k n)
    | inr h ↦
        let w = meets_from_left p q r s h n m in
        (w.0, record { crossing = pos_not_zero (spread p q r s) h; common = w.1 })
  ]
]
  where
    other_way : (a b : ℤ) → (a -ℤ b) <ℤ pos 0 → pos 0 <ℤ (b -ℤ a)
    other_way a b h = omega (arith, ints)

    parallel : (a b : ℤ) → a -ℤ b ≡ pos 0 → ¬ ((a ≡ pos 0) × (b ≡ pos 0)) → ¬ (AreOnOneSide a b) → ⊥
    parallel a b e k n = elim (sign_cases a) as (λ _. ⊥) [
      | inl h ↦ n (inr (h, omega (arith, ints)))
      | inr c ↦ elim c as (λ _. ⊥) [ inl z ↦ k (z, omega (arith, ints)) | inr h ↦ n (inl (h, omega (arith, ints))) ]
    ]

pub only_of_meeting : (p q r s : Pt) (z : Point) → IsMeeting p q r s z → IsOnlyCommon p q r s z
only_of_meeting p q r s z h = record {
  common = h.common;
  only = λ w c. only_meeting p q r s h.crossing w z (straight p q w c.0) (straight r s w c.1) (straight p q z h.common.0) (straight r s z h.common.1);
}

-- the common point is an end exactly where that end lies on the other line
pub at_end : (p q r s v : Pt) (z : Point) → IsMeeting p q r s z → turn_of p q v ≡ pos 0 → turn_of r s v ≡ pos 0 → SamePoint z (point_of v)
at_end p q r s v z h a b =
    only_meeting p q r s h.crossing z (point_of v) (straight p q z h.common.0) (straight r s z h.common.1) (beside-at p q v ∙ a) (beside-at r s v ∙ b)

pub end_straight : (r s v : Pt) (z : Point) → OnSegment (point_of r) (point_of s) z → SamePoint z (point_of v) → turn_of r s v ≡ pos 0
end_straight r s v z h e = zero-of-mul (pos z.d) (turn_of r s v) (scale_above z) (sym (turn-of_same r s v z e) ∙ straight r s z h)

pub end_of_first : (p q r s : Pt) (z : Point) → IsMeeting p q r s z → (turn_of r s p ≡ pos 0) ⊎ (turn_of r s q ≡ pos 0) → IsLineEnd p q z
end_of_first p q r s z h (inl e) = inl (at_end p q r s p z h (turn_at_first p q) e)
end_of_first p q r s z h (inr e) = inr (at_end p q r s q z h (turn_at_second p q) e)

pub end_of_second : (p q r s : Pt) (z : Point) → IsMeeting p q r s z → (turn_of p q r ≡ pos 0) ⊎ (turn_of p q s ≡ pos 0) → IsLineEnd r s z
end_of_second p q r s z h (inl e) = inl (at_end p q r s r z h e (turn_at_first r s))
end_of_second p q r s z h (inr e) = inr (at_end p q r s s z h e (turn_at_second r s))

pub no_end_of_first : (p q r s : Pt) (z : Point) → IsMeeting p q r s z → ¬ ((turn_of r s p ≡ pos 0) ⊎ (turn_of r s q ≡ pos 0)) → ¬ (IsLineEnd p q z)
no_end_of_first p q r s z h n (inl e) = n (inl (end_straight r s p z h.common.1 e))
no_end_of_first p q r s z h n (inr e) = n (inr (end_straight r s q z h.common.1 e))

pub no_end_of_second : (p q r s : Pt) (z : Point) → IsMeeting p q r s z → ¬ ((turn_of p q r ≡ pos 0) ⊎ (turn_of p q s ≡ pos 0)) → ¬ (IsLineEnd r s z)
no_end_of_second p q r s z h n (inl e) = n (inl (end_straight p q r z h.common.0 e))
no_end_of_second p q r s z h n (inr e) = n (inr (end_straight p q s z h.common.0 e))

-- ---- both segments on one line
-- v lies on the line of p and q, from p to q
pub point_on_first : (p q v : Pt) → pos 0 <ℤ square_of p q → turn_of p q v ≡ pos 0 → pos 0 ≤ℤ reach_of p q v → reach_of p q v ≤ℤ square_of p q → IsOn p q (point_of v)
point_on_first p q v l e f t = IsOn-of-along p q (point_of v) l (record {
  straight = beside-at p q v ∙ e;
  from = subst (λ (a : ℤ). pos 0 ≤ℤ a) (sym (along-at p q v)) f;
  to = moved (along p q (point_of v)) (reach_of p q v) (square_of p q) (along-at p q v) t;
})
  where
    moved : (a b l : ℤ) → a ≡ b → b ≤ℤ l → a ≤ℤ (pos 1 *ℤ l)
    moved a b l e h = let f : pos 1 *ℤ l ≡ l = by_ring (l ∷ []) _ _ (search quoting depth 40 fits 100000) (search quoting depth 40 fits 100000) tt in omega (arith, ints)

turn_on_line : (p q r s v : Pt) → turn_of p q v ≡ turn_of p q r → turn_of p q s ≡ turn_of p q r → square_of p q *ℤ turn_of r s v ≡ pos 0
unfolding reach_of turn_of
turn_on_line p q r s v h k =
    combine2 (reach_of p q s -ℤ reach_of p q r) (reach_of p q r -ℤ reach_of p q v) h k
    (by_ring (p.x ∷ p.y ∷ q.x ∷ q.y ∷ r.x ∷ r.y ∷ s.x ∷ s.y ∷ v.x ∷ v.y ∷ []) _ _ (search quoting depth 60 fits 200000) (search quoting depth 60 fits 200000) tt)

reach_on_line : (p q r s v : Pt) → turn_of p q v ≡ turn_of p q r → square_of p q *ℤ reach_of r s v ≡ (reach_of p q s -ℤ reach_of p q r) *ℤ (reach_of p q v -ℤ reach_of p q r)
unfolding reach_of turn_of
reach_on_line p q r s v h =
    combine1 (turn_of p q s -ℤ turn_of p q r) h
    (by_ring (p.x ∷ p.y ∷ q.x ∷ q.y ∷ r.x ∷ r.y ∷ s.x ∷ s.y ∷ v.x ∷ v.y ∷ []) _ _ (search quoting depth 60 fits 200000) (search quoting depth 60 fits 200000) tt)

rest_on_line : (p q r s v : Pt) → turn_of p q s ≡ turn_of p q r → square_of p q *ℤ (square_of r s -ℤ reach_of r s v) ≡ (reach_of p q s -ℤ reach_of p q r) *ℤ (reach_of p q s -ℤ reach_of p q v)
unfolding reach_of turn_of
rest_on_line p q r s v h =
    combine1 (turn_of p q s -ℤ turn_of p q v) h
    (by_ring (p.x ∷ p.y ∷ q.x ∷ q.y ∷ r.x ∷ r.y ∷ s.x ∷ s.y ∷ v.x ∷ v.y ∷ []) _ _ (search quoting depth 60 fits 200000) (search quoting depth 60 fits 200000) tt)

pub point_on_second : (p q r s v : Pt) → AreLaid p q r s → turn_of p q v ≡ pos 0 → reach_of p q r ≤ℤ reach_of p q v → reach_of p q v ≤ℤ reach_of p q s → IsOn r s (point_of v)
point_on_second p q r s v l e f t = point_on_first r s v l.second_long
    (zero-of-mul (square_of p q) _ l.first_long (turn_on_line p q r s v (e ∙ sym l.near) (l.far ∙ sym l.near)))
    (nonneg-of-mul (square_of p q) _ l.first_long (subst (λ (a : ℤ). pos 0 ≤ℤ a) (sym (reach_on_line p q r s v (e ∙ sym l.near)))
    (product_of_differences (reach_of p q s) (reach_of p q r) (reach_of p q v) (reach_of p q r) l.rising f)))
    (le_of_difference (square_of r s) (reach_of r s v) (nonneg-of-mul (square_of p q) _ l.first_long (subst (λ (a : ℤ). pos 0 ≤ℤ a) (sym (rest_on_line p q r s v (l.far ∙ sym l.near)))
    (product_of_differences (reach_of p q s) (reach_of p q r) (reach_of p q s) (reach_of p q v) l.rising t))))
  where
    product_of_differences : (a b c d : ℤ) → b <ℤ a → d ≤ℤ c → pos 0 ≤ℤ ((a -ℤ b) *ℤ (c -ℤ d))
    product_of_differences a b c d h k = mul-nonneg (a -ℤ b) (c -ℤ d) (omega (arith, ints)) (omega (arith, ints))

-- how far along the first a common point is, by its weights on the second, counted from a bound
counted : (k a d m n u v t : ℤ) → k ≡ m +ℤ n → k *ℤ a ≡ d *ℤ (m *ℤ u +ℤ n *ℤ v) → k *ℤ (a -ℤ d *ℤ t) ≡ d *ℤ (m *ℤ (u -ℤ t) +ℤ n *ℤ (v -ℤ t))
counted k a d m n u v t g h = combine2 (neg_ℤ (d *ℤ t)) (pos 1) g h (by_ring (k ∷ a ∷ d ∷ m ∷ n ∷ u ∷ v ∷ t ∷ []) _ _ (search quoting depth 60 fits 200000) (search quoting depth 60 fits 200000) tt)

pub along_common : (p q r s : Pt) (t : ℤ) (z : Point) (h : IsOn r s z) → (h.0 +ℤ h.1) *ℤ (along p q z -ℤ pos z.d *ℤ t) ≡ pos z.d *ℤ (h.0 *ℤ (reach_of p q r -ℤ t) +ℤ h.1 *ℤ (reach_of p q s -ℤ t))
along_common p q r s t z h = counted (h.0 +ℤ h.1) (along p q z) (pos z.d) h.0 h.1 (reach_of p q r) (reach_of p q s) t refl
    (along-of_mean p q r s h.0 h.1 z h.2 ∙ ap₂ (λ (a b : ℤ). pos z.d *ℤ (h.0 *ℤ a +ℤ h.1 *ℤ b)) (along-at p q r) (along-at p q s))

pub late_common : (p q r s : Pt) (t : ℤ) (z : Point) → IsOn r s z → t ≤ℤ reach_of p q r → t ≤ℤ reach_of p q s → (pos z.d *ℤ t) ≤ℤ along p q z
late_common p q r s t z h a b =
    le_of_difference (along p q z) (pos z.d *ℤ t) (nonneg-of-mul (h.0 +ℤ h.1) _ h.2.weighted (subst (λ (w : ℤ). pos 0 ≤ℤ w) (sym (along_common p q r s t z h)) (weighted h.0 h.1 (pos z.d) (reach_of p q r) (reach_of p q s) t h.2.first h.2.second (scale_above z) a b)))
  where
    weighted : (m n d u v t : ℤ) → pos 0 ≤ℤ m → pos 0 ≤ℤ n → pos 0 <ℤ d → t ≤ℤ u → t ≤ℤ v → pos 0 ≤ℤ (d *ℤ (m *ℤ (u -ℤ t) +ℤ n *ℤ (v -ℤ t)))
    weighted m n d u v t hm hn hd hu hv =
        let a : pos 0 ≤ℤ (m *ℤ (u -ℤ t)) = mul-nonneg m (u -ℤ t) hm (omega (arith, ints)) in
        let b : pos 0 ≤ℤ (n *ℤ (v -ℤ t)) = mul-nonneg n (v -ℤ t) hn (omega (arith, ints)) in
        mul-nonneg d _ (omega (arith, ints)) (omega (arith, ints))

pub early_common : (p q r s : Pt) (t : ℤ) (z : Point) → IsOn r s z → reach_of p q r ≤ℤ t → reach_of p q s ≤ℤ t → along p q z ≤ℤ (pos z.d *ℤ t)
early_common p q r s t z h a b =
    most (along p q z) (pos z.d *ℤ t) (h.0 +ℤ h.1) (pos z.d *ℤ (h.0 *ℤ (reach_of p q r -ℤ t) +ℤ h.1 *ℤ (reach_of p q s -ℤ t))) (along_common p q r s t z h) h.2.weighted (weighted h.0 h.1 (pos z.d) (reach_of p q r) (reach_of p q s) t h.2.first h.2.second (scale_above z) a b)
  where
    weighted : (m n d u v t : ℤ) → pos 0 ≤ℤ m → pos 0 ≤ℤ n → pos 0 <ℤ d → u ≤ℤ t → v ≤ℤ t → pos 0 ≤ℤ neg_ℤ (d *ℤ (m *ℤ (u -ℤ t) +ℤ n *ℤ (v -ℤ t)))
    weighted m n d u v t hm hn hd hu hv =
        let a : pos 0 ≤ℤ (m *ℤ (t -ℤ u)) = mul-nonneg m (t -ℤ u) hm (omega (arith, ints)) in
        let b : pos 0 ≤ℤ (n *ℤ (t -ℤ v)) = mul-nonneg n (t -ℤ v) hn (omega (arith, ints)) in
        let c : pos 0 ≤ℤ (d *ℤ (m *ℤ (t -ℤ u) +ℤ n *ℤ (t -ℤ v))) = mul-nonneg d _ (omega (arith, ints)) (omega (arith, ints)) in
        let e : d *ℤ (m *ℤ (t -ℤ u) +ℤ n *ℤ (t -ℤ v)) ≡ neg_ℤ (d *ℤ (m *ℤ (u -ℤ t) +ℤ n *ℤ (v -ℤ t))) = by_ring (m ∷ n ∷ d ∷ u ∷ v ∷ t ∷ []) _ _ (search quoting depth 60 fits 200000) (search quoting depth 60 fits 200000) tt in
        subst (λ (x : ℤ). pos 0 ≤ℤ x) e c

    most : (a b k w : ℤ) → k *ℤ (a -ℤ b) ≡ w → pos 0 <ℤ k → pos 0 ≤ℤ neg_ℤ w → a ≤ℤ b
    most a b k w e hk hw =
        let f : k *ℤ (b -ℤ a) ≡ neg_ℤ w = combine1 (negsuc 0) e (by_ring (a ∷ b ∷ k ∷ w ∷ []) _ _ (search quoting depth 40 fits 100000) (search quoting depth 40 fits 100000) tt) in
        let g : pos 0 ≤ℤ (b -ℤ a) = nonneg-of-mul k (b -ℤ a) hk (omega (arith, ints)) in
        omega (arith, ints)

-- ---- the three answers on one line
pub apart_before : (p q r s : Pt) → AreLaid p q r s → reach_of p q s <ℤ pos 0 → IsRelation p q r s Apart
apart_before p q r s l h z c =
    let f = on p q z c.0 in
    let o = on r s z c.1 in
    let k = o.2 in
    let g = along_common p q r s (pos 0) z o in
    let a = (IsAlong-of-mean p q f.0 f.1 z f.2).from in
    clash (along p q z) (pos z.d) (o.0 +ℤ o.1) (o.0 *ℤ (reach_of p q r -ℤ pos 0) +ℤ o.1 *ℤ (reach_of p q s -ℤ pos 0)) g a (scale_above z) k.weighted
    (sum_neg o.0 o.1 (reach_of p q r -ℤ pos 0) (reach_of p q s -ℤ pos 0) k.first k.second k.weighted (lower (reach_of p q r) (reach_of p q s) l.rising h) (below (reach_of p q s) h))
  where
    below : (a : ℤ) → a <ℤ pos 0 → (a -ℤ pos 0) <ℤ pos 0
    below a h = omega (arith, ints)

    lower : (a b : ℤ) → a <ℤ b → b <ℤ pos 0 → (a -ℤ pos 0) <ℤ pos 0
    lower a b h k = omega (arith, ints)

    clash : (a d k w : ℤ) → k *ℤ (a -ℤ d *ℤ pos 0) ≡ d *ℤ w → pos 0 ≤ℤ a → pos 0 <ℤ d → pos 0 <ℤ k → pos 0 <ℤ neg_ℤ w → ⊥
    clash a d k w e ha hd hk hw =
        let p : pos 0 <ℤ (d *ℤ neg_ℤ w) = mul-pos d (neg_ℤ w) hd hw in
        let q : pos 0 ≤ℤ (k *ℤ a) = mul-nonneg k a (omega (arith, ints)) ha in
        let f : k *ℤ a +ℤ d *ℤ neg_ℤ w ≡ pos 0 = combine1 (pos 1) e (by_ring (a ∷ d ∷ k ∷ w ∷ []) _ _ (search quoting depth 60 fits 200000) (search quoting depth 60 fits 200000) tt) in
        omega (arith, ints)

pub apart_after : (p q r s : Pt) → AreLaid p q r s → square_of p q <ℤ reach_of p q r → IsRelation p q r s Apart
apart_after p q r s l h z c =
    let f = on p q z c.0 in
    let o = on r s z c.1 in
    let k = o.2 in
    let g = along_common p q r s (square_of p q) z o in
    let a = (IsAlong-of-mean p q f.0 f.1 z f.2).to in
    clash (along p q z) (pos z.d *ℤ square_of p q) (pos z.d) (o.0 +ℤ o.1) (o.0 *ℤ (reach_of p q r -ℤ square_of p q) +ℤ o.1 *ℤ (reach_of p q s -ℤ square_of p q)) g a (scale_above z) k.weighted
    (sum-pos o.0 o.1 (reach_of p q r -ℤ square_of p q) (reach_of p q s -ℤ square_of p q) k.first k.second k.weighted (pos_difference (reach_of p q r) (square_of p q) h) (higher (reach_of p q r) (reach_of p q s) (square_of p q) l.rising h))
  where
    higher : (a b t : ℤ) → a <ℤ b → t <ℤ a → pos 0 <ℤ (b -ℤ t)
    higher a b t h k = omega (arith, ints)

    clash : (a b d k w : ℤ) → k *ℤ (a -ℤ b) ≡ d *ℤ w → a ≤ℤ b → pos 0 <ℤ d → pos 0 <ℤ k → pos 0 <ℤ w → ⊥
    clash a b d k w e ha hd hk hw =
        let p : pos 0 <ℤ (d *ℤ w) = mul-pos d w hd hw in
        let q : pos 0 ≤ℤ (k *ℤ (b -ℤ a)) = mul-nonneg k (b -ℤ a) (omega (arith, ints)) (omega (arith, ints)) in
        let f : k *ℤ (b -ℤ a) +ℤ d *ℤ w ≡ pos 0 = combine1 (negsuc 0) e (by_ring (a ∷ b ∷ d ∷ k ∷ w ∷ []) _ _ (search quoting depth 60 fits 200000) (search quoting depth 60 fits 200000) tt) in
        omega (arith, ints)

along_first : (p q : Pt) (z : Point) → OnSegment (point_of p) (point_of q) z → IsAlong p q z
along_first p q z g = let f = on p q z g in IsAlong-of-mean p q f.0 f.1 z f.2

-- a point on the line as far along it as the whole point v is v
same_as_point : (p q v : Pt) (z : Point) → pos 0 <ℤ square_of p q → turn_of p q v ≡ pos 0 → OnSegment (point_of p) (point_of q) z → along p q z ≡ pos z.d *ℤ reach_of p q v → SamePoint z (point_of v)
same_as_point p q v z l e h f = same_reach p q z (point_of v) l (straight p q z h) (beside-at p q v ∙ e) (moved (along p q z) (pos z.d) (reach_of p q v) (along p q (point_of v)) f (along-at p q v))
  where
    moved : (a d t b : ℤ) → a ≡ d *ℤ t → b ≡ t → a *ℤ pos 1 ≡ b *ℤ d
    moved a d t b h k = combine2 (pos 1) (neg_ℤ d) h k (by_ring (a ∷ d ∷ t ∷ b ∷ []) _ _ (search quoting depth 60 fits 200000) (search quoting depth 60 fits 200000) tt)

same_points : (p q u v : Pt) → pos 0 <ℤ square_of p q → turn_of p q u ≡ pos 0 → turn_of p q v ≡ pos 0 → reach_of p q u ≡ reach_of p q v → SamePoint (point_of u) (point_of v)
same_points p q u v l e f g = same_reach p q (point_of u) (point_of v) l (beside-at p q u ∙ e) (beside-at p q v ∙ f) (ap (λ (a : ℤ). a *ℤ pos 1) (along-at p q u ∙ g ∙ sym (along-at p q v)))

pub reach_first : (p q : Pt) → reach_of p q p ≡ pos 0
unfolding reach_of
reach_first p q = by_ring (p.x ∷ p.y ∷ q.x ∷ q.y ∷ []) _ _ (search quoting depth 40 fits 100000) (search quoting depth 40 fits 100000) tt

same_number : (a b d : ℤ) → a ≤ℤ (d *ℤ b) → (d *ℤ b) ≤ℤ a → a ≡ d *ℤ b
same_number a b d h k = omega (arith, ints)

same_le : (a b : ℤ) → a ≡ b → a ≤ℤ b
same_le a b e = omega (arith, ints)

same_ge : (a b : ℤ) → a ≡ b → b ≤ℤ a
same_ge a b e = omega (arith, ints)

-- the second begins where the first ends
pub ends_at_last : (p q r s : Pt) → AreLaid p q r s → reach_of p q r ≡ square_of p q → IsRelation p q r s Ends
ends_at_last p q r s l e =
    let straight_q = turn_at_second p q in
    let on_first = point_on_first p q q l.first_long straight_q (le_of_lt (pos 0) _ l.first_long) (same_le _ _ refl) in
    let on_second = point_on_second p q r s q l straight_q (same_le _ _ e) (past (reach_of p q r) (reach_of p q s) (square_of p q) e l.rising) in (
      point_of q,
      record {
        common = (segment p q (point_of q) on_first, segment r s (point_of q) on_second);
        only = λ w c. same_as_point p q q w l.first_long straight_q c.0 (same_number (along p q w) (square_of p q) (pos w.d)
            (along_first p q w c.0).to
            (late_common p q r s (square_of p q) w (on r s w c.1) (same_ge _ _ e) (past (reach_of p q r) (reach_of p q s) (square_of p q) e l.rising)));
      },
      inr (same_point_refl (point_of q)),
      inl (same_points p q q r l.first_long straight_q l.near (sym e)),
    )
  where
    past : (a b t : ℤ) → a ≡ t → a <ℤ b → t ≤ℤ b
    past a b t e h = omega (arith, ints)

-- the second ends where the first begins
pub ends_at_first : (p q r s : Pt) → AreLaid p q r s → reach_of p q s ≡ pos 0 → IsRelation p q r s Ends
ends_at_first p q r s l e =
    let straight_p = turn_at_first p q in
    let zero = reach_first p q in
    let on_first = point_on_first p q p l.first_long straight_p (same_ge _ _ zero) (le_of_zero (reach_of p q p) (square_of p q) zero l.first_long) in
    let on_second = point_on_second p q r s p l straight_p (below (reach_of p q r) (reach_of p q s) (reach_of p q p) l.rising e zero) (same_le _ _ (zero ∙ sym e)) in (
      point_of p,
      record {
        common = (segment p q (point_of p) on_first, segment r s (point_of p) on_second);
        only = λ w c. same_as_point p q p w l.first_long straight_p c.0 (at_zero (along p q w) (pos w.d) (reach_of p q p) zero
            (along_first p q w c.0).from
            (early_common p q r s (pos 0) w (on r s w c.1) (lower (reach_of p q r) (reach_of p q s) l.rising e) (same_le _ _ e)));
      },
      inl (same_point_refl (point_of p)),
      inr (same_points p q p s l.first_long straight_p l.far (zero ∙ sym e)),
    )
  where
    below : (a b c : ℤ) → a <ℤ b → b ≡ pos 0 → c ≡ pos 0 → a ≤ℤ c
    below a b c h e f = omega (arith, ints)

    lower : (a b : ℤ) → a <ℤ b → b ≡ pos 0 → a ≤ℤ pos 0
    lower a b h e = omega (arith, ints)

    at_zero : (a d t : ℤ) → t ≡ pos 0 → pos 0 ≤ℤ a → a ≤ℤ (d *ℤ pos 0) → a ≡ d *ℤ t
    at_zero a d t e h k =
        let f : d *ℤ t ≡ d *ℤ pos 0 = ap (λ (x : ℤ). d *ℤ x) e in
        let g : d *ℤ pos 0 ≡ pos 0 = by_ring (d ∷ []) _ _ (search quoting depth 40 fits 100000) (search quoting depth 40 fits 100000) tt in
        omega (arith, ints)

-- two points of the line, the one behind the other, both on both
record IsShared (p q r s v : Pt) : Type 0 where
  on_line : turn_of p q v ≡ pos 0
  after_p : pos 0 ≤ℤ reach_of p q v
  before_q : reach_of p q v ≤ℤ square_of p q
  after_r : reach_of p q r ≤ℤ reach_of p q v
  before_s : reach_of p q v ≤ℤ reach_of p q s

shared_common : (p q r s v : Pt) → AreLaid p q r s → IsShared p q r s v → IsCommon p q r s (point_of v)
shared_common p q r s v l h = (
  segment p q (point_of v) (point_on_first p q v l.first_long h.on_line h.after_p h.before_q),
  segment r s (point_of v) (point_on_second p q r s v l h.on_line h.after_r h.before_s),
)

not_same : (p q u v : Pt) → reach_of p q u <ℤ reach_of p q v → ¬ (SamePoint (point_of u) (point_of v))
unfolding reach_of
not_same p q u v h e =
    let f : reach_of p q u ≡ reach_of p q v = combine2 (q.x -ℤ p.x) (q.y -ℤ p.y) e.x e.y (by_ring (p.x ∷ p.y ∷ q.x ∷ q.y ∷ u.x ∷ u.y ∷ v.x ∷ v.y ∷ []) _ _ (search quoting depth 60 fits 200000) (search quoting depth 60 fits 200000) tt) in
    clash (reach_of p q u) (reach_of p q v) f h
  where
    clash : (a b : ℤ) → a ≡ b → a <ℤ b → ⊥
    clash a b e h = omega (arith, ints)

shared_overlap : (p q r s u v : Pt) → AreLaid p q r s → IsShared p q r s u → IsShared p q r s v → reach_of p q u <ℤ reach_of p q v → IsRelation p q r s Overlap
shared_overlap p q r s u v l a b h = (point_of u, point_of v, shared_common p q r s u l a, shared_common p q r s v l b, not_same p q u v h)

-- the later of p and r, and the earlier of q and s, are shared
pub overlap_inside : (p q r s : Pt) → AreLaid p q r s → pos 0 <ℤ reach_of p q s → reach_of p q r <ℤ square_of p q → IsRelation p q r s Overlap
overlap_inside p q r s l h k =
    let zero = reach_first p q in
    let u_p : reach_of p q r ≤ℤ pos 0 → IsShared p q r s p = λ a. record {
      on_line = turn_at_first p q;
      after_p = same_ge _ _ zero;
      before_q = le_of_zero (reach_of p q p) (square_of p q) zero l.first_long;
      after_r = zero_high (reach_of p q r) (reach_of p q p) zero a;
      before_s = le_of_zero (reach_of p q p) (reach_of p q s) zero h;
    } in
    let u_r : pos 0 ≤ℤ reach_of p q r → IsShared p q r s r = λ a. record {
      on_line = l.near;
      after_p = a;
      before_q = le_of_lt _ _ k;
      after_r = same_le (reach_of p q r) _ refl;
      before_s = le_of_lt _ _ l.rising;
    } in
    let v_q : square_of p q ≤ℤ reach_of p q s → IsShared p q r s q = λ a. record {
      on_line = turn_at_second p q;
      after_p = le_of_lt _ _ l.first_long;
      before_q = same_le (square_of p q) _ refl;
      after_r = le_of_lt _ _ k;
      before_s = a;
    } in
    let v_s : reach_of p q s ≤ℤ square_of p q → IsShared p q r s s = λ a. record {
      on_line = l.far;
      after_p = le_of_lt _ _ h;
      before_q = a;
      after_r = le_of_lt _ _ l.rising;
      before_s = same_le (reach_of p q s) _ refl;
    } in
    elim (le_or_lt (reach_of p q r) (pos 0)) as (λ _. IsRelation p q r s Overlap) [
      | inl a ↦ elim (le_or_lt (square_of p q) (reach_of p q s)) as (λ _. IsRelation p q r s Overlap) [
        | inl b ↦ shared_overlap p q r s p q l (u_p a) (v_q b) (lt_of_zero (reach_of p q p) (square_of p q) zero l.first_long)
        | inr b ↦ shared_overlap p q r s p s l (u_p a) (v_s (le_of_lt _ _ b)) (lt_of_zero (reach_of p q p) (reach_of p q s) zero h)
      ]
      | inr a ↦ elim (le_or_lt (square_of p q) (reach_of p q s)) as (λ _. IsRelation p q r s Overlap) [
        | inl b ↦ shared_overlap p q r s r q l (u_r (le_of_lt _ _ a)) (v_q b) k
        | inr b ↦ shared_overlap p q r s r s l (u_r (le_of_lt _ _ a)) (v_s (le_of_lt _ _ b)) l.rising
      ]
    ]
  where
    zero_high : (a t : ℤ) → t ≡ pos 0 → a ≤ℤ pos 0 → a ≤ℤ t
    zero_high a t e h = omega (arith, ints)

-- the ends of the second exchanged
only_swapped : (p q r s : Pt) (z : Point) → IsOnlyCommon p q r s z → IsOnlyCommon p q s r z
only_swapped p q r s z h = record { common = common_swapped p q r s z h.common; only = λ w c. h.only w (common_swapped p q s r w c) }

pub relation_swapped : (p q r s : Pt) (k : Relation) → IsRelation p q r s k → IsRelation p q s r k
relation_swapped p q r s Apart h = λ z c. h z (common_swapped p q s r z c)
relation_swapped p q r s Overlap h = (h.0, h.1, common_swapped p q r s h.0 h.2, common_swapped p q r s h.1 h.3, h.4)
relation_swapped p q r s Ends h = (h.0, only_swapped p q r s h.0 h.1, h.2, end_flip r s h.0 h.3)
relation_swapped p q r s Touch h = (h.0, only_swapped p q r s h.0 h.1, touch_swapped h.0 h.2)
  where
    touch_swapped : (z : Point) → (IsLineEnd p q z × ¬ (IsLineEnd r s z)) ⊎ (¬ (IsLineEnd p q z) × IsLineEnd r s z) → (IsLineEnd p q z × ¬ (IsLineEnd s r z)) ⊎ (¬ (IsLineEnd p q z) × IsLineEnd s r z)
    touch_swapped z (inl g) = inl (g.0, λ e. g.1 (end_flip s r z e))
    touch_swapped z (inr g) = inr (g.0, end_flip r s z g.1)
relation_swapped p q r s Cross h = (h.0, only_swapped p q r s h.0 h.1, h.2, λ e. h.3 (end_flip s r h.0 e))

-- two different points of a line are not equally far along it
pub reach_apart : (p q r s : Pt) → pos 0 <ℤ square_of p q → turn_of p q r ≡ pos 0 → turn_of p q s ≡ pos 0 → reach_of p q r ≡ reach_of p q s → r ≡ s
reach_apart p q r s l e f g =
    let h = same_points p q r s l e f g in
    same_pt r s (same_without_one r.x s.x h.x) (same_without_one r.y s.y h.y)

-- ---- for the answers of functions
pub laid : (p q r s : Pt) → ¬ (p ≡ q) → ¬ (r ≡ s) → turn_of p q r ≡ pos 0 → turn_of p q s ≡ pos 0 → reach_of p q r <ℤ reach_of p q s → AreLaid p q r s
laid p q r s n m e f h = record { first_long = square_of-pos p q n; second_long = square_of-pos r s m; near = e; far = f; rising = h }

-- of two different points of the line one is further along
pub laid_back : (p q r s : Pt) → ¬ (p ≡ q) → ¬ (r ≡ s) → turn_of p q r ≡ pos 0 → turn_of p q s ≡ pos 0 → reach_of p q s ≤ℤ reach_of p q r → AreLaid p q s r
laid_back p q r s n m e f h = laid p q s r n (λ g. m (sym g)) f e
    (strict (reach_of p q s) (reach_of p q r) h (λ g. m (reach_apart p q r s (square_of-pos p q n) e f (sym g))))
  where
    strict : (a b : ℤ) → a ≤ℤ b → ¬ (a ≡ b) → a <ℤ b
    strict a b h n = omega (arith, ints)
