-- The laws of a commutative ring for ℤ that the library lacks, by the two natural parts of a number.
use Rattle.std.proofs.Common.{ℤ, ◌+ℤ◌, ◌*ℤ◌, neg_ℤ, ◌≡◌, ap, ap₂, ◌∙◌, ◌+◌, ◌*◌, ℕ, arith}
use borrow.Author.Differences.{up, down, same_in, product_is, sum_is_lem, neg_is, ints}
use lib.IntN.{*ℤ_comm}

pub *ℤ_assoc : (a b c : ℤ) → (a *ℤ b) *ℤ c ≡ a *ℤ (b *ℤ c)
*ℤ_assoc a b c =
    let l0 = (product_is (a *ℤ b) c).0 ∙ ap₂ (λ (x y : ℕ). x * up c + y * down c) (product_is a b).0 (product_is a b).1 in
    let l1 = (product_is (a *ℤ b) c).1 ∙ ap₂ (λ (x y : ℕ). x * down c + y * up c) (product_is a b).0 (product_is a b).1 in
    let r0 = (product_is a (b *ℤ c)).0 ∙ ap₂ (λ (x y : ℕ). up a * x + down a * y) (product_is b c).0 (product_is b c).1 in
    let r1 = (product_is a (b *ℤ c)).1 ∙ ap₂ (λ (x y : ℕ). up a * y + down a * x) (product_is b c).0 (product_is b c).1 in
    same_in _ _ (omega (arith, l0, l1, r0, r1))

pub *ℤ-add : (a b c : ℤ) → a *ℤ (b +ℤ c) ≡ a *ℤ b +ℤ a *ℤ c
*ℤ-add a b c =
    let s0 = ap (λ (x : ℕ). up a * x) (sum_is_lem b c) in
    let s1 = ap (λ (x : ℕ). down a * x) (sum_is_lem b c) in
    same_in _ _ (omega (arith, s0, s1, product_is a (b +ℤ c), product_is a b, product_is a c, sum_is_lem (a *ℤ b) (a *ℤ c)))

pub add-*ℤ : (a b c : ℤ) → (a +ℤ b) *ℤ c ≡ a *ℤ c +ℤ b *ℤ c
add-*ℤ a b c = *ℤ_comm (a +ℤ b) c ∙ *ℤ-add c a b ∙ ap₂ (λ (x y : ℤ). x +ℤ y) (*ℤ_comm c a) (*ℤ_comm c b)

pub neg-*ℤ : (a b : ℤ) → neg_ℤ a *ℤ b ≡ neg_ℤ (a *ℤ b)
neg-*ℤ a b =
    let l0 = (product_is (neg_ℤ a) b).0 ∙ ap₂ (λ (x y : ℕ). x * up b + y * down b) (neg_is a).0 (neg_is a).1 in
    let l1 = (product_is (neg_ℤ a) b).1 ∙ ap₂ (λ (x y : ℕ). x * down b + y * up b) (neg_is a).0 (neg_is a).1 in
    same_in _ _ (omega (arith, l0, l1, neg_is (a *ℤ b), product_is a b))

-- what the solver needs of sums, each linear in its atoms
pub sum-swap : (a b c d : ℤ) → (a +ℤ b) +ℤ (c +ℤ d) ≡ (a +ℤ c) +ℤ (b +ℤ d)
sum-swap a b c d = omega (arith, ints)
