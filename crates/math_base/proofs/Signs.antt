-- The signs of products, sums and factors in ℤ. Arithmetic that is linear in its atoms, a product counting as an atom, is left to `omega (arith, ints)`.
use Rattle.std.proofs.Common.{ℤ, pos, negsuc, ◌+ℤ◌, ◌-ℤ◌, ◌*ℤ◌, neg_ℤ, ◌≡◌, ◌≤ℤ◌, ◌<ℤ◌, refl, sym, ap, ◌∙◌, zero, suc, arith, ◌⊎◌, inl, inr}
use lib.IntN.{*ℤ_comm}
use borrow.Author.Differences.{ints}
use Rattle.math_base.proofs.IntLaws.{*ℤ-add, neg-*ℤ}

pub mul-nonneg : (a b : ℤ) → pos 0 ≤ℤ a → pos 0 ≤ℤ b → pos 0 ≤ℤ (a *ℤ b)
mul-nonneg (pos a) (pos b) h k = omega (arith, ints)
mul-nonneg (pos a) (negsuc b) h k = omega (arith, ints)
mul-nonneg (negsuc a) b h k = omega (arith, ints)

pub mul-pos : (a b : ℤ) → pos 0 <ℤ a → pos 0 <ℤ b → pos 0 <ℤ (a *ℤ b)
mul-pos (pos zero) b h k = omega (arith, ints)
mul-pos (pos (suc a)) (pos zero) h k = omega (arith, ints)
mul-pos (pos (suc a)) (pos (suc b)) h k = omega (arith, ints)
mul-pos (pos (suc a)) (negsuc b) h k = omega (arith, ints)
mul-pos (negsuc a) b h k = omega (arith, ints)

pub square-nonneg : (a : ℤ) → pos 0 ≤ℤ (a *ℤ a)
square-nonneg (pos a) = omega (arith, ints)
square-nonneg (negsuc a) = omega (arith, ints)

-- a number is negative, zero or positive
pub sign_cases : (a : ℤ) → (a <ℤ pos 0) ⊎ (a ≡ pos 0) ⊎ (pos 0 <ℤ a)
sign_cases (pos zero) = inr (inl refl)
sign_cases (pos (suc n)) = inr (inr (omega (arith, ints)))
sign_cases (negsuc n) = inl (omega (arith, ints))

pub le_or_lt : (a b : ℤ) → (a ≤ℤ b) ⊎ (b <ℤ a)
le_or_lt a b = elim (sign_cases (a -ℤ b)) as (λ _. (a ≤ℤ b) ⊎ (b <ℤ a)) [ inl h ↦ inl (omega (arith, ints)) | inr k ↦ elim k as (λ _. (a ≤ℤ b) ⊎ (b <ℤ a)) [ inl e ↦ inl (omega (arith, ints, e)) | inr h ↦ inr (omega (arith, ints)) ] ]

-- a factor's sign, from the product's
pub pos-of-mul : (a b : ℤ) → pos 0 <ℤ a → pos 0 <ℤ (a *ℤ b) → pos 0 <ℤ b
pos-of-mul a (pos zero) h k = omega (arith, ints)
pos-of-mul a (pos (suc b)) h k = omega (arith, ints)
pos-of-mul (pos a) (negsuc b) h k = omega (arith, ints)
pos-of-mul (negsuc a) (negsuc b) h k = omega (arith, ints)

pub nonneg-of-mul : (a b : ℤ) → pos 0 <ℤ a → pos 0 ≤ℤ (a *ℤ b) → pos 0 ≤ℤ b
nonneg-of-mul a (pos b) h k = omega (arith, ints)
nonneg-of-mul (pos zero) (negsuc b) h k = omega (arith, ints)
nonneg-of-mul (pos (suc a)) (negsuc b) h k = omega (arith, ints)
nonneg-of-mul (negsuc a) (negsuc b) h k = omega (arith, ints)

pub zero-of-mul : (a b : ℤ) → pos 0 <ℤ a → a *ℤ b ≡ pos 0 → b ≡ pos 0
zero-of-mul a (pos zero) h e = refl
zero-of-mul (pos zero) (pos (suc b)) h e = omega (arith, ints)
zero-of-mul (pos (suc a)) (pos (suc b)) h e = omega (arith, ints)
zero-of-mul (negsuc a) (pos (suc b)) h e = omega (arith, ints)
zero-of-mul (pos zero) (negsuc b) h e = omega (arith, ints)
zero-of-mul (pos (suc a)) (negsuc b) h e = omega (arith, ints)
zero-of-mul (negsuc a) (negsuc b) h e = omega (arith, ints)

-- order and a factor
pub mul-le : (c a b : ℤ) → pos 0 ≤ℤ c → a ≤ℤ b → (c *ℤ a) ≤ℤ (c *ℤ b)
mul-le c a b h k =
    let d : pos 0 ≤ℤ (c *ℤ (b -ℤ a)) = mul-nonneg c (b -ℤ a) h (omega (arith, ints)) in
    let e : c *ℤ (b -ℤ a) ≡ c *ℤ b -ℤ c *ℤ a = *ℤ-add c b (neg_ℤ a) ∙ ap (λ (x : ℤ). c *ℤ b +ℤ x) (*ℤ_comm c (neg_ℤ a) ∙ neg-*ℤ a c ∙ ap neg_ℤ (*ℤ_comm a c)) in
    omega (arith, ints)

pub le-of-mul : (c a b : ℤ) → pos 0 <ℤ c → (c *ℤ a) ≤ℤ (c *ℤ b) → a ≤ℤ b
le-of-mul c a b h k =
    let e : c *ℤ (b -ℤ a) ≡ c *ℤ b -ℤ c *ℤ a = *ℤ-add c b (neg_ℤ a) ∙ ap (λ (x : ℤ). c *ℤ b +ℤ x) (*ℤ_comm c (neg_ℤ a) ∙ neg-*ℤ a c ∙ ap neg_ℤ (*ℤ_comm a c)) in
    let d : pos 0 ≤ℤ (b -ℤ a) = nonneg-of-mul c (b -ℤ a) h (omega (arith, ints)) in
    omega (arith, ints)

pub same-of-mul : (c a b : ℤ) → pos 0 <ℤ c → c *ℤ a ≡ c *ℤ b → a ≡ b
same-of-mul c a b h k =
    let e : c *ℤ (a -ℤ b) ≡ c *ℤ a -ℤ c *ℤ b = *ℤ-add c a (neg_ℤ b) ∙ ap (λ (x : ℤ). c *ℤ a +ℤ x) (*ℤ_comm c (neg_ℤ b) ∙ neg-*ℤ b c ∙ ap neg_ℤ (*ℤ_comm b c)) in
    let d : a -ℤ b ≡ pos 0 = zero-of-mul c (a -ℤ b) h (omega (arith, ints)) in
    omega (arith, ints)

pub same-of-factor : (c a b : ℤ) → ¬ (c ≡ pos 0) → c *ℤ a ≡ c *ℤ b → a ≡ b
same-of-factor c a b n e = elim (sign_cases c) as (λ _. a ≡ b) [
  | inl h ↦ same-of-mul (neg_ℤ c) a b (omega (arith, ints)) (neg-*ℤ c a ∙ ap neg_ℤ e ∙ sym (neg-*ℤ c b))
  | inr k ↦ elim k as (λ _. a ≡ b) [ inl z ↦ absurd (n z) | inr h ↦ same-of-mul c a b h e ]
]
