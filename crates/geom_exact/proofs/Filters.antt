-- Segments that are apart since one lies below the other, or before it by x and then y.
use Rattle.std.proofs.Common.{ℤ, pos, ◌+ℤ◌, ◌-ℤ◌, ◌*ℤ◌, neg_ℤ, nat_abs, ◌<ℤ◌, ◌≤ℤ◌, ◌≡◌, inl, inr, [], ◌∷◌, arith, sym, ap, subst}
use Rattle.std.proofs.lemmas.Int.{ints}
use Rattle.math_base.proofs.Quoting.{quoting, by_ring}
use Rattle.math_base.proofs.Signs.{mul-le, le_or_lt}
use Rattle.sight_names.specs.declared.names.Pt.{Pt}
use Rattle.sight_names.specs.Point.{point_of, value_at}
use Rattle.sight_names.specs.Plan.{IsBefore}
use Rattle.sight_names.proofs.Affine.{value_pos, value_nonpos}
use Rattle.geom_exact.specs.declared.Relation.TheVariants.{Apart}
use Rattle.geom_exact.specs.Common.{IsRelation}
use Rattle.math_base.proofs.Small.{le_of_lt, le_itself, pos_difference, nonpos_not_pos}

-- a line a * x + b * y + c with the second segment strictly on the one side, and the first not on it
pub parted : (a b c : ℤ) (p q r s : Pt) → value_at a b c (point_of p) ≤ℤ pos 0 → value_at a b c (point_of q) ≤ℤ pos 0 → pos 0 <ℤ value_at a b c (point_of r) → pos 0 <ℤ value_at a b c (point_of s) → IsRelation p q r s Apart
parted a b c p q r s hp hq hr hs z g = nonpos_not_pos (value_at a b c z) (value_nonpos a b c (point_of p) (point_of q) z hp hq g.0) (value_pos a b c (point_of r) (point_of s) z hr hs g.1)

-- k * x + y
unfoldable pub slanted : ℤ → Pt → ℤ
slanted k p = k *ℤ p.x +ℤ p.y

slanted_is : (k t : ℤ) (p : Pt) → value_at k (pos 1) (neg_ℤ t) (point_of p) ≡ slanted k p -ℤ t
unfolding slanted
slanted_is k t p = by_ring (k ∷ t ∷ p.x ∷ p.y ∷ []) _ _ (search quoting depth 60 fits 200000) (search quoting depth 60 fits 200000) tt

parted_at : (k t : ℤ) (p q r s : Pt) → slanted k p ≤ℤ t → slanted k q ≤ℤ t → t <ℤ slanted k r → t <ℤ slanted k s → IsRelation p q r s Apart
parted_at k t p q r s hp hq hr hs = parted k (pos 1) (neg_ℤ t) p q r s
    (subst (λ (v : ℤ). v ≤ℤ pos 0) (sym (slanted_is k t p)) (low (slanted k p) t hp))
    (subst (λ (v : ℤ). v ≤ℤ pos 0) (sym (slanted_is k t q)) (low (slanted k q) t hq))
    (subst (λ (v : ℤ). pos 0 <ℤ v) (sym (slanted_is k t r)) (pos_difference (slanted k r) t hr))
    (subst (λ (v : ℤ). pos 0 <ℤ v) (sym (slanted_is k t s)) (pos_difference (slanted k s) t hs))
  where
    low : (v t : ℤ) → v ≤ℤ t → (v -ℤ t) ≤ℤ pos 0
    low v t h = omega (arith, ints)

-- both ends of the first come before both ends of the second
abbrev pub AreLower : (Pt → Pt → Type 0) → Pt → Pt → Pt → Pt → Type 0
AreLower lower p q r s = lower p r × lower p s × lower q r × lower q s

pub apart_slanted : (k : ℤ) (p q r s : Pt) → AreLower (λ u v. slanted k u <ℤ slanted k v) p q r s → IsRelation p q r s Apart
apart_slanted k p q r s h = elim (le_or_lt (slanted k p) (slanted k q)) as (λ _. IsRelation p q r s Apart) [
  | inl g ↦ parted_at k (slanted k q) p q r s g (le_itself (slanted k q)) h.2 h.3
  | inr g ↦ parted_at k (slanted k p) p q r s (le_itself (slanted k p)) (le_of_lt (slanted k q) (slanted k p) g) h.0 h.1
]

level : (u : Pt) → slanted (pos 0) u ≡ u.y
unfolding slanted
level u = by_ring (u.x ∷ u.y ∷ []) _ _ (search quoting depth 60 fits 200000) (search quoting depth 60 fits 200000) tt

-- by y alone
pub apart_below : (p q r s : Pt) → AreLower (λ u v. u.y <ℤ v.y) p q r s → IsRelation p q r s Apart
apart_below p q r s h = apart_slanted (pos 0) p q r s (raised p r h.0, raised p s h.1, raised q r h.2, raised q s h.3)
  where
    along : (a b c d : ℤ) → a ≡ c → b ≡ d → c <ℤ d → a <ℤ b
    along a b c d e f h = omega (arith, ints)

    raised : (u v : Pt) → u.y <ℤ v.y → slanted (pos 0) u <ℤ slanted (pos 0) v
    raised u v h = along _ _ u.y v.y (level u) (level v) h

-- by x, then by y: a slant that is steep enough for these four points
rises : (k : ℤ) (u v : Pt) → pos 0 ≤ℤ k → (u.y -ℤ v.y) <ℤ k → IsBefore u v → slanted k u <ℤ slanted k v
unfolding slanted
rises k u v hk g (inl h) = steep u.x v.x u.y v.y h g
  where
    steep : (a b y z : ℤ) → a <ℤ b → (y -ℤ z) <ℤ k → (k *ℤ a +ℤ y) <ℤ (k *ℤ b +ℤ z)
    steep a b y z h g =
        let m : (k *ℤ (a +ℤ pos 1)) ≤ℤ (k *ℤ b) = mul-le k (a +ℤ pos 1) b hk (omega (arith, ints)) in
        let e : k *ℤ (a +ℤ pos 1) ≡ k *ℤ a +ℤ k = by_ring (k ∷ a ∷ []) _ _ (search quoting depth 60 fits 200000) (search quoting depth 60 fits 200000) tt in
        omega (arith, ints)
rises k u v hk g (inr h) = level_step u.x v.x u.y v.y h.0 h.1
  where
    level_step : (a b y z : ℤ) → a ≡ b → y <ℤ z → (k *ℤ a +ℤ y) <ℤ (k *ℤ b +ℤ z)
    level_step a b y z e h = let f : k *ℤ a ≡ k *ℤ b = ap (λ (t : ℤ). k *ℤ t) e in omega (arith, ints)

apart_steep : (k : ℤ) (p q r s : Pt) → pos 0 ≤ℤ k → AreLower (λ u v. (u.y -ℤ v.y) <ℤ k) p q r s → AreLower IsBefore p q r s → IsRelation p q r s Apart
apart_steep k p q r s hk g h = apart_slanted k p q r s (rises k p r hk g.0 h.0, rises k p s hk g.1 h.1, rises k q r hk g.2 h.2, rises k q s hk g.3 h.3)

abbrev steepness : ℤ → ℤ → ℤ → ℤ → ℤ
steepness a b c d = pos 1 +ℤ pos (nat_abs a) +ℤ pos (nat_abs b) +ℤ pos (nat_abs c) +ℤ pos (nat_abs d)

pub apart_before_all : (p q r s : Pt) → AreLower IsBefore p q r s → IsRelation p q r s Apart
apart_before_all p q r s h = apart_steep (steepness p.y q.y r.y s.y) p q r s (some p.y q.y r.y s.y) (first p.y q.y r.y s.y, second p.y q.y r.y s.y, third p.y q.y r.y s.y, fourth p.y q.y r.y s.y) h
  where
    some : (a b c d : ℤ) → pos 0 ≤ℤ steepness a b c d
    some a b c d = omega (arith, ints)

    first : (a b c d : ℤ) → (a -ℤ c) <ℤ steepness a b c d
    first a b c d = omega (arith, ints)

    second : (a b c d : ℤ) → (a -ℤ d) <ℤ steepness a b c d
    second a b c d = omega (arith, ints)

    third : (a b c d : ℤ) → (b -ℤ c) <ℤ steepness a b c d
    third a b c d = omega (arith, ints)

    fourth : (a b c d : ℤ) → (b -ℤ d) <ℤ steepness a b c d
    fourth a b c d = omega (arith, ints)
