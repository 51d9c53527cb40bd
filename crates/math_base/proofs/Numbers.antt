-- Natural numbers: the ways in which two of them stand, and what the tests of the code say of them.
use Rattle.std.proofs.Common.{◌≡◌, ◌≢◌, ℕ, zero, suc, ◌+◌, ◌*◌, ◌<◌, ◌≤◌, ◌⊎◌, Bool, true, false, not, eqb, ltb, max, cond, arith, sym, ◌∙◌, eq-eqb}
use Rattle.std.proofs.lemmas.Bool.Decides.{nat_tests}
use mathlib.Core.Logic.{dite}
use native.Mathlib.Decide.{ℕ_discrete}

-- ---- two numbers

pub below_or_last : (a b : ℕ) → a < b + 1 → (a < b) ⊎ (a ≡ b)
below_or_last a b h = grind arith

pub below_or_at : (a b : ℕ) → a < suc b → (a < b) ⊎ (a ≡ b)
below_or_at a b h = grind arith

pub same_or_below : (a b : ℕ) → a ≤ b → (a ≡ b) ⊎ (a < b)
same_or_below a b h = grind arith

pub below_or_not : (a b : ℕ) → (a < b) ⊎ (b ≤ a)
below_or_not a b = grind arith

pub either_order : (a b : ℕ) → (a ≤ b) ⊎ (b ≤ a)
either_order a b = grind arith

pub same_or_not : (a b : ℕ) → (a ≡ b) ⊎ (a ≢ b)
same_or_not a b = grind arith

pub below_or_above : (a b : ℕ) → a ≢ b → (a < b) ⊎ (b < a)
below_or_above a b h = grind arith

pub below_above_or_same : (a b : ℕ) → (a < b) ⊎ ((b < a) ⊎ (a ≡ b))
below_above_or_same a b = grind arith

pub below_same_or_above : (a b : ℕ) → (a < b) ⊎ ((a ≡ b) ⊎ (b < a))
below_same_or_above a b = grind arith

pub same_below_or_above : (a b : ℕ) → (a ≡ b) ⊎ ((a < b) ⊎ (b < a))
same_below_or_above a b = grind arith

pub below_differs : (a b : ℕ) → a < b → a ≡ b → ⊥
below_differs a b h e = omega arith

pub below_through : (a b c : ℕ) → a < b → b ≤ c → a < c
below_through a b c h k = omega arith

pub next_is : (k : ℕ) → suc k ≡ k + 1
next_is k = omega arith

pub is_next : (k : ℕ) → k + 1 ≡ suc k
is_next k = omega arith

-- of three numbers compared one after the other, not both are before the other
pub one_order_of_three : (a b c d x y : ℕ) → (a < b) ⊎ ((a ≡ b) × ((c < d) ⊎ ((c ≡ d) × (x < y)))) → (b < a) ⊎ ((b ≡ a) × ((d < c) ⊎ ((d ≡ c) × (y < x)))) → ⊥
one_order_of_three a b c d x y h k = omega arith

-- ---- rows of a square table

pub row_within : (a n k : ℕ) → a < k → a * n + n ≤ k * n
row_within a n zero h = absurd (omega (arith, h))
row_within zero n (suc k) h = omega arith
row_within (suc a) n (suc k) h = let r = row_within a n k (omega (arith, h)) in omega (arith, r)

pub place_within : (a b n : ℕ) → a < n → b < n → a * n + b < n * n
place_within a b n h k = let r = row_within a n n h in omega (arith, r, k)

-- ---- bits

pub bit_of_left : (a b : ℕ) → a < 2 → b < 2 → a ≡ 1 → max a b ≡ 1
bit_of_left a b c d e = omega arith

pub bit_of_right : (a b : ℕ) → a < 2 → b < 2 → b ≡ 1 → max a b ≡ 1
bit_of_right a b c d e = omega arith

pub bit_of_none : (a b : ℕ) → b ≡ 0 → max a b ≡ a
bit_of_none a b e = omega arith

pub same_bit : (a b : ℕ) → a < 2 → b < 2 → (a ≡ 1 → b ≡ 1) → (b ≡ 1 → a ≡ 1) → a ≡ b
same_bit a b l m f g = dite (ℕ_discrete a 1) (λ e. e ∙ sym (f e)) (λ n. dite (ℕ_discrete b 1) (λ e. absurd (n (g e))) (λ k. omega arith))

pub small_bit : (t : Bool) → cond t 0 1 ≤ 1
small_bit true = omega arith
small_bit false = omega arith

-- ---- tests

pub tells_same : (a b : ℕ) → a ≡ b → eqb a b ≡ true
tells_same a b e = eq-eqb a b e

pub is_told_same : (a b : ℕ) → eqb a b ≡ true → a ≡ b
is_told_same a b e = grind (arith, nat_tests)

pub tells_other : (a b : ℕ) → a ≢ b → eqb a b ≡ false
tells_other a b n = grind (arith, nat_tests)

pub tells_some : (k : ℕ) → not (eqb k 0) ≡ true → k ≢ 0
tells_some k e = grind (arith, nat_tests)

pub tells_below : (a b : ℕ) → a < b → ltb a b ≡ true
tells_below a b h = grind (arith, nat_tests)

pub is_told_below : (a b : ℕ) → ltb a b ≡ true → a < b
is_told_below a b e = grind (arith, nat_tests)

pub tells_not_below : (a b : ℕ) → b ≤ a → ltb a b ≡ false
tells_not_below a b h = grind (arith, nat_tests)

pub is_told_not_below : (a b : ℕ) → ltb a b ≡ false → b ≤ a
is_told_not_below a b e = grind (arith, nat_tests)
