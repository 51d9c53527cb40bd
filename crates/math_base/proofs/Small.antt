-- Small facts of order, of signs and of differences in ℤ, as steps of longer proofs name them.
use Rattle.std.proofs.Common.{ℤ, pos, ◌+ℤ◌, ◌-ℤ◌, ◌*ℤ◌, neg_ℤ, ◌≡◌, ◌≤ℤ◌, ◌<ℤ◌, ℕ, suc, ◌+◌, ◌<◌, ◌≤◌, [], ◌∷◌, nat_abs, arith, ap, ◌∙◌, inl, inr, ◌⊎◌}
use Rattle.std.proofs.lemmas.Int.{ints}
use Rattle.math_base.proofs.Quoting.{quoting, by_ring}
use Rattle.math_base.proofs.Signs.{mul-nonneg, mul-pos, square-nonneg, sign_cases}
use Rattle.math_base.proofs.MoreSigns.{square-pos}

-- ---- weaker and stronger

pub nonneg_of_pos : (a : ℤ) → pos 0 <ℤ a → pos 0 ≤ℤ a
nonneg_of_pos a h = omega (arith, ints)

pub nonpos_of_neg : (a : ℤ) → a <ℤ pos 0 → a ≤ℤ pos 0
nonpos_of_neg a h = omega (arith, ints)

pub nonpos_of_zero : (a : ℤ) → a ≡ pos 0 → a ≤ℤ pos 0
nonpos_of_zero a e = omega (arith, ints)

pub le_of_lt : (a b : ℤ) → a <ℤ b → a ≤ℤ b
le_of_lt a b h = omega (arith, ints)

pub le_itself : (a : ℤ) → a ≤ℤ a
le_itself a = omega (arith, ints)

pub nonneg_of_same : (a b : ℤ) → a ≡ b → pos 0 ≤ℤ b → pos 0 ≤ℤ a
nonneg_of_same a b e h = omega (arith, ints)

pub lt_of_zero : (a b : ℤ) → a ≡ pos 0 → pos 0 <ℤ b → a <ℤ b
lt_of_zero a b e h = omega (arith, ints)

pub le_of_zero : (a b : ℤ) → a ≡ pos 0 → pos 0 <ℤ b → a ≤ℤ b
le_of_zero a b e h = omega (arith, ints)

pub nonneg_sum : (a b c : ℤ) → pos 0 <ℤ a → pos 0 <ℤ b → pos 0 <ℤ c → pos 0 ≤ℤ (a +ℤ b +ℤ c)
nonneg_sum a b c h k l = omega (arith, ints)

-- ---- what can't be

pub pos_not_zero : (a : ℤ) → pos 0 <ℤ a → a ≡ pos 0 → ⊥
pos_not_zero a h e = omega (arith, ints)

pub neg_not_zero : (a : ℤ) → a <ℤ pos 0 → a ≡ pos 0 → ⊥
neg_not_zero a h e = omega (arith, ints)

pub pos_not_neg : (a : ℤ) → pos 0 <ℤ a → a <ℤ pos 0 → ⊥
pos_not_neg a h k = omega (arith, ints)

pub nonpos_not_pos : (a : ℤ) → a ≤ℤ pos 0 → pos 0 <ℤ a → ⊥
nonpos_not_pos a h k = omega (arith, ints)

pub zero_or_not : (a : ℤ) → (a ≡ pos 0) ⊎ ¬ (a ≡ pos 0)
zero_or_not a = elim (sign_cases a) as (λ _. (a ≡ pos 0) ⊎ ¬ (a ≡ pos 0)) [
  | inl n ↦ inr (λ e. omega (arith, ints, n, e))
  | inr k ↦ elim k as (λ _. (a ≡ pos 0) ⊎ ¬ (a ≡ pos 0)) [ inl z ↦ inl z | inr p ↦ inr (λ e. omega (arith, ints, p, e)) ]
]

-- ---- negated

pub neg_of_negated_pos : (a b : ℤ) → a ≡ neg_ℤ b → pos 0 <ℤ b → a <ℤ pos 0
neg_of_negated_pos a b e h = omega (arith, ints)

pub pos_of_negated_neg : (a b : ℤ) → a ≡ neg_ℤ b → b <ℤ pos 0 → pos 0 <ℤ a
pos_of_negated_neg a b e h = omega (arith, ints)

pub pos_where_negated : (a b : ℤ) → b ≡ neg_ℤ a → a <ℤ pos 0 → pos 0 <ℤ b
pos_where_negated a b e h = omega (arith, ints)

pub nonneg_of_nonpos : (a : ℤ) → a ≤ℤ pos 0 → pos 0 ≤ℤ neg_ℤ a
nonneg_of_nonpos a h = omega (arith, ints)

pub nonneg_of_neg : (a : ℤ) → a <ℤ pos 0 → pos 0 ≤ℤ neg_ℤ a
nonneg_of_neg a h = omega (arith, ints)

pub zero_of_negated : (a : ℤ) → neg_ℤ a ≡ pos 0 → a ≡ pos 0
zero_of_negated a h = omega (arith, ints)

pub negated_sum : (a b c x y d : ℤ) → neg_ℤ a *ℤ x +ℤ neg_ℤ b *ℤ y +ℤ neg_ℤ c *ℤ d ≡ neg_ℤ (a *ℤ x +ℤ b *ℤ y +ℤ c *ℤ d)
negated_sum a b c x y d = by_ring (a ∷ b ∷ c ∷ x ∷ y ∷ d ∷ []) _ _ (search quoting depth 40 fits 100000) (search quoting depth 40 fits 100000) tt

-- ---- differences

pub same_where_no_difference : (a b : ℤ) → b -ℤ a ≡ pos 0 → a ≡ b
same_where_no_difference a b e = omega (arith, ints)

pub pos_difference : (a b : ℤ) → b <ℤ a → pos 0 <ℤ (a -ℤ b)
pos_difference a b h = omega (arith, ints)

pub lt_of_difference : (a b : ℤ) → pos 0 <ℤ (a -ℤ b) → b <ℤ a
lt_of_difference a b h = omega (arith, ints)

pub le_of_difference : (a b : ℤ) → pos 0 ≤ℤ (a -ℤ b) → b ≤ℤ a
le_of_difference a b h = omega (arith, ints)

-- ---- products

pub times_one : (a : ℤ) → a *ℤ pos 1 ≡ a
times_one a = omega (arith, ints)

pub one_times : (a : ℤ) → pos 1 *ℤ a ≡ a
one_times a = omega (arith, ints)

pub zero_times : (a : ℤ) → pos 0 *ℤ a ≡ pos 0
zero_times a = omega (arith, ints)

pub times_zero : (a : ℤ) → a *ℤ pos 0 ≡ pos 0
times_zero a = omega (arith, ints)

pub same_without_one : (a b : ℤ) → a *ℤ pos 1 ≡ b *ℤ pos 1 → a ≡ b
same_without_one a b e = omega (arith, ints)

pub zero_by_first : (a b : ℤ) → a ≡ pos 0 → a *ℤ b ≡ pos 0
zero_by_first a b e = ap (λ (t : ℤ). t *ℤ b) e ∙ zero_times b

pub zero_by_second : (a b : ℤ) → b ≡ pos 0 → a *ℤ b ≡ pos 0
zero_by_second a b e = ap (λ (t : ℤ). a *ℤ t) e ∙ times_zero a

pub zero_of_square : (a : ℤ) → a *ℤ a ≡ pos 0 → a ≡ pos 0
zero_of_square a e = elim (zero_or_not a) as (λ _. a ≡ pos 0) [
  | inl z ↦ z
  | inr n ↦ absurd (pos_not_zero (a *ℤ a) (square-pos a n) e)
]

pub some_square : (a b : ℤ) → ¬ ((a ≡ pos 0) × (b ≡ pos 0)) → pos 0 <ℤ (a *ℤ a +ℤ b *ℤ b)
some_square a b h = elim (sign_cases a) [
  | inl lt ↦ let s = square-pos a (λ e. omega (arith, ints)) in let t = square-nonneg b in omega (arith, ints, s, t)
  | inr (inl e) ↦ let s = square-pos b (λ f. h (e, f)) in let t = square-nonneg a in omega (arith, ints, s, t)
  | inr (inr lt) ↦ let s = square-pos a (λ e. omega (arith, ints)) in let t = square-nonneg b in omega (arith, ints, s, t)
]

pub weighed_nonneg : (k : ℕ) (a : ℤ) → pos 0 <ℤ a → pos 0 ≤ℤ (pos k *ℤ a)
weighed_nonneg k a h = mul-nonneg (pos k) a (omega (arith, ints)) (omega (arith, ints))

pub weighed_pos : (k : ℕ) (a : ℤ) → pos 0 <ℤ a → pos 0 <ℤ (pos (suc k) *ℤ a)
weighed_pos k a h = mul-pos (pos (suc k)) a (omega (arith, ints)) h

pub cross_weights : (a b x y : ℤ) → (a *ℤ y -ℤ b *ℤ x) *ℤ (neg_ℤ b +ℤ a) ≡ (a -ℤ b) *ℤ (neg_ℤ b *ℤ x +ℤ a *ℤ y)
cross_weights a b x y = by_ring (a ∷ b ∷ x ∷ y ∷ []) _ _ (search quoting depth 40 fits 100000) (search quoting depth 40 fits 100000) tt

-- ---- numbers of either kind

pub nat_nonneg : (n : ℕ) → pos 0 ≤ℤ pos n
nat_nonneg n = omega (arith, ints)

pub some_of_sum : (k l : ℕ) → pos 0 <ℤ (pos k +ℤ pos l) → 0 < k + l
some_of_sum k l h = omega (arith, ints)

pub abs_of_nonneg : (a : ℤ) → pos 0 ≤ℤ a → pos (nat_abs a) ≡ a
abs_of_nonneg a h = omega (arith, ints)

pub abs_negated : (a : ℤ) (n : ℕ) → nat_abs a ≤ n → nat_abs (neg_ℤ a) ≤ n
abs_negated a n h = omega (arith, ints)
