-- Kinds of pairs that are one: their counts and their first pairs. And kinds that are counted as none.
use Rattle.std.proofs.Common.{◌≡◌, ℕ, zero, suc, ◌+◌, ◌<◌, ◌≤◌, ◌↔◌, inl, inr, Bool, true, false, cond, Option, Some, None, ap, sym, subst, ◌∙◌, arith}
use Rattle.std.specs.Prelude.{IsTrue}
use Rattle.std.specs.List.{count_by, range_with_len, sum_by}
use Rattle.std.proofs.lemmas.List.Sums.{sum_by-cons}
use Rattle.math_base.proofs.Numbers.{below_or_not}
use Rattle.sight_names.specs.declared.names.Pair.{Pair}
use Rattle.table_compare.specs.Counts.{IsCountOf, IsFirstOf}

module _ (n : ℕ) (P Q : ℕ → ℕ → Type 0) (same : (a b : ℕ) → a < n → b < n → P a b ↔ Q a b) where
  pub count_so : (count : ℕ) → IsCountOf n P count → IsCountOf n Q count
  count_so count h = record {
    test = h.test;
    tells = λ a b la lb. ((λ told. (same a b la lb).0 ((h.tells a b la lb).0 told)), (λ q. (h.tells a b la lb).1 ((same a b la lb).1 q)));
    passed = h.passed;
  }

  pub first_so : (first : Option Pair) → IsFirstOf n P first → IsFirstOf n Q first
  first_so (Some pair) h = record {
    row = h.row;
    column = h.column;
    is = (same pair.a pair.b h.row h.column).0 h.is;
    before = λ a b la lb less q. h.before a b la lb less ((same a b la lb).1 q);
  }
  first_so None h = λ a b la lb q. h a b la lb ((same a b la lb).1 q)

-- ---- none

sum_none : (f : ℕ → ℕ) (a n : ℕ) → sum_by f (range_with_len a n) ≡ 0 → (k : ℕ) → a ≤ k → k < a + n → f k ≡ 0
sum_none f a zero e k le lt = absurd (omega arith)
sum_none f a (suc n) e k le lt =
    let parts = sum_by-cons f a (range_with_len (a + 1) n) in
    elim (below_or_not a k) as (λ _. f k ≡ 0) [
      | inl more ↦ sum_none f (a + 1) n (omega (arith, e, parts)) k (omega arith) (omega arith)
      | inr less ↦ let same : a ≡ k = omega arith in let here : f a ≡ 0 = omega (arith, e, parts) in subst (λ (x : ℕ). f x ≡ 0) same here
    ]

not_counted : (b : Bool) → ◌≡◌ {A = ℕ} (cond b 1 0) 0 → ¬ IsTrue b
not_counted true e told = absurd cc
not_counted false e told = absurd cc

-- where none are counted there are none
pub none_counted : (n : ℕ) (P : ℕ → ℕ → Type 0) (count : ℕ) → IsCountOf n P count → count ≡ 0 → (a b : ℕ) → a < n → b < n → ¬ P a b
none_counted n P count h none a b la lb p =
    let row : count_by (h.test a) (range_with_len 0 n) ≡ 0 = sum_none (λ (x : ℕ). count_by (h.test x) (range_with_len 0 n)) 0 n (sym h.passed ∙ none) a (omega arith) (omega arith) in
    let bit : cond (h.test a b) 1 0 ≡ 0 = sum_none (λ (y : ℕ). cond (h.test a y) 1 0) 0 n row b (omega arith) (omega arith) in
    not_counted (h.test a b) bit ((h.tells a b la lb).1 p)
