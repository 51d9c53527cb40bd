-- More on signs: negative factors, strict orders, weighted sums.
use Rattle.std.proofs.Common.{ℤ, pos, ◌+ℤ◌, ◌*ℤ◌, neg_ℤ, ◌≡◌, ◌≤ℤ◌, ◌<ℤ◌, [], ◌∷◌, arith, inl, inr}
use Rattle.std.proofs.lemmas.Int.{ints}
use Rattle.math_base.proofs.Signs.{mul-nonneg, mul-pos, pos-of-mul, nonneg-of-mul, sign_cases, le_or_lt}
use Rattle.math_base.proofs.Quoting.{quoting, ring_at}

-- a negated factor, to turn a sign
pub mul-neg_ℤ : (a b : ℤ) → a *ℤ neg_ℤ b ≡ neg_ℤ (a *ℤ b)
mul-neg_ℤ a b = ring_at (a ∷ b ∷ []) (search quoting depth 40 fits 100000) tt

pub mul-neg : (a b : ℤ) → pos 0 <ℤ a → b <ℤ pos 0 → (a *ℤ b) <ℤ pos 0
mul-neg a b h k =
    let p : pos 0 <ℤ (a *ℤ neg_ℤ b) = mul-pos a (neg_ℤ b) h (omega (arith, ints)) in
    let e = mul-neg_ℤ a b in
    omega (arith, ints)

pub mul-nonpos : (a b : ℤ) → pos 0 ≤ℤ a → b ≤ℤ pos 0 → (a *ℤ b) ≤ℤ pos 0
mul-nonpos a b h k =
    let p : pos 0 ≤ℤ (a *ℤ neg_ℤ b) = mul-nonneg a (neg_ℤ b) h (omega (arith, ints)) in
    let e = mul-neg_ℤ a b in
    omega (arith, ints)

pub mul-both_neg : (a b : ℤ) → a <ℤ pos 0 → b <ℤ pos 0 → pos 0 <ℤ (a *ℤ b)
mul-both_neg a b h k =
    let p : pos 0 <ℤ (neg_ℤ a *ℤ neg_ℤ b) = mul-pos (neg_ℤ a) (neg_ℤ b) (omega (arith, ints)) (omega (arith, ints)) in
    let e : neg_ℤ a *ℤ neg_ℤ b ≡ a *ℤ b = ring_at (a ∷ b ∷ []) (search quoting depth 40 fits 100000) tt in
    omega (arith, ints)

pub neg-of-mul : (a b : ℤ) → pos 0 <ℤ a → (a *ℤ b) <ℤ pos 0 → b <ℤ pos 0
neg-of-mul a b h k =
    let e = mul-neg_ℤ a b in
    let p : pos 0 <ℤ neg_ℤ b = pos-of-mul a (neg_ℤ b) h (omega (arith, ints)) in
    omega (arith, ints)

pub nonpos-of-mul : (a b : ℤ) → pos 0 <ℤ a → (a *ℤ b) ≤ℤ pos 0 → b ≤ℤ pos 0
nonpos-of-mul a b h k =
    let e = mul-neg_ℤ a b in
    let p : pos 0 ≤ℤ neg_ℤ b = nonneg-of-mul a (neg_ℤ b) h (omega (arith, ints)) in
    omega (arith, ints)

pub square-pos : (a : ℤ) → ¬ (a ≡ pos 0) → pos 0 <ℤ (a *ℤ a)
square-pos a n = elim (sign_cases a) as (λ _. pos 0 <ℤ (a *ℤ a)) [
  | inl h ↦ mul-both_neg a a h h
  | inr k ↦ elim k as (λ _. pos 0 <ℤ (a *ℤ a)) [ inl e ↦ absurd (n e) | inr h ↦ mul-pos a a h h ]
]

-- ---- weighted sums

pub sum-nonpos : (l m x y : ℤ) → pos 0 ≤ℤ l → pos 0 ≤ℤ m → x ≤ℤ pos 0 → y ≤ℤ pos 0 → (l *ℤ x +ℤ m *ℤ y) ≤ℤ pos 0
sum-nonpos l m x y a b c d =
    let p = mul-nonpos l x a c in
    let q = mul-nonpos m y b d in
    omega (arith, ints)

pub sum-pos_left : (l m x y : ℤ) → pos 0 <ℤ l → pos 0 ≤ℤ m → pos 0 <ℤ x → pos 0 ≤ℤ y → pos 0 <ℤ (l *ℤ x +ℤ m *ℤ y)
sum-pos_left l m x y a b c d =
    let p = mul-pos l x a c in
    let q = mul-nonneg m y b d in
    omega (arith, ints)

pub sum-pos_right : (l m x y : ℤ) → pos 0 ≤ℤ l → pos 0 <ℤ m → pos 0 ≤ℤ x → pos 0 <ℤ y → pos 0 <ℤ (l *ℤ x +ℤ m *ℤ y)
sum-pos_right l m x y a b c d =
    let p = mul-nonneg l x a c in
    let q = mul-pos m y b d in
    omega (arith, ints)

-- weights that are not both 0, on two positive numbers
pub sum-pos : (l m x y : ℤ) → pos 0 ≤ℤ l → pos 0 ≤ℤ m → pos 0 <ℤ (l +ℤ m) → pos 0 <ℤ x → pos 0 <ℤ y → pos 0 <ℤ (l *ℤ x +ℤ m *ℤ y)
sum-pos l m x y a b h c d = elim (le_or_lt l (pos 0)) as (λ _. pos 0 <ℤ (l *ℤ x +ℤ m *ℤ y)) [
  | inl k ↦ sum-pos_right l m x y a (omega (arith, ints)) (omega (arith, ints)) d
  | inr k ↦ sum-pos_left l m x y k b c (omega (arith, ints))
]
