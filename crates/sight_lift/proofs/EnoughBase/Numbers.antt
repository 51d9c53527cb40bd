-- Numbers that are put together as digits: each is told by the whole, which has a bound.
use Rattle.std.proofs.Common.{◌≡◌, ℕ, ◌+◌, ◌-◌, ◌*◌, ◌<◌, arith, ap, ◌⊎◌, inl, inr}
use Rattle.math_base.proofs.Numbers.{below_above_or_same}

-- a * v + b is below n * v
pub digit_below : (n v a b : ℕ) → a < n → b < v → a * v + b < n * v
digit_below n v a b h k =
    let d = n - (a + 1) in
    let e : n ≡ a + 1 + d = omega arith in
    let f : n * v ≡ (a + 1 + d) * v = ap (λ (x : ℕ). x * v) e in
    omega arith

too_large : (v a b c d : ℕ) → b < v → a < c → a * v + b ≡ c * v + d → ⊥
too_large v a b c d h k e =
    let x = c - (a + 1) in
    let f : c ≡ a + 1 + x = omega arith in
    let g : c * v ≡ (a + 1 + x) * v = ap (λ (y : ℕ). y * v) f in
    omega arith

pub same_digits : (v a b c d : ℕ) → b < v → d < v → a * v + b ≡ c * v + d → (a ≡ c) × (b ≡ d)
same_digits v a b c d h k e = go (below_above_or_same a c)
  where
    go : (a < c) ⊎ ((c < a) ⊎ (a ≡ c)) → (a ≡ c) × (b ≡ d)
    go (inl l) = absurd (too_large v a b c d h l e)
    go (inr (inl l)) = absurd (too_large v c d a b k l (omega arith))
    go (inr (inr s)) = let f : a * v ≡ c * v = ap (λ (x : ℕ). x * v) s in (s, omega arith)
