-- Bits that are set step by step.
use Rattle.std.proofs.Common.{◌≡◌, ℕ, zero, suc, ◌+◌, ◌<◌, ◌≤◌, ◌⊎◌, ◌↔◌, inl, inr, List, refl, sym, ap, ◌∙◌, subst, arith}
use Rattle.std.specs.Prelude.{slice_index, replicate, ◌*◌, ◌/◌, ◌%◌}
use Rattle.std.specs.Int.{bit_at}
use Rattle.std.proofs.lemmas.Nat.Bits.{bit_at-zero}
use Rattle.math_base.proofs.Numbers.{below_or_last, below_or_not}
use Rattle.reject_bits.specs.Parts.{TableParts, Rejects, SetsPair, KeepsOtherPairs}
use Rattle.pair_budget.proofs.FoundSectorsLaws.{same_or_other}
use Rattle.group_job.specs.Marks.{SetsMore, OfSteps, HasStepBits}

-- ---- a table without a bit

zero_bytes : (n k : ℕ) → slice_index (replicate n 0) k ≡ 0
zero_bytes zero k = refl
zero_bytes (suc n) zero = refl
zero_bytes (suc n) (suc k) = zero_bytes n k

pub clear_has_none : (t : TableParts) (n : ℕ) → t.bytes ≡ replicate n 0 → (a b : ℕ) → ¬ Rejects t a b
clear_has_none t n e a b bit =
    let k = a * t.n + b in
    let none : bit_at (slice_index t.bytes (k / 8)) (k % 8) ≡ 0 = ap (λ (bs : List ℕ). bit_at (slice_index bs (k / 8)) (k % 8)) e ∙ (ap (λ (v : ℕ). bit_at v (k % 8)) (zero_bytes n (k / 8)) ∙ bit_at-zero (k % 8)) in
    let clash : 0 ≡ 1 = sym none ∙ bit in
    omega (arith, clash)

-- ---- steps

pub sets_one : (old new : TableParts) (a b : ℕ) → SetsPair old new a b → KeepsOtherPairs old new a b → SetsMore (λ c d. (c ≡ a) × (d ≡ b)) old new
sets_one old new a b sets keeps = record { sectors = sets.sectors; bits = λ c d lc ld. at c d lc ld (same_or_other c d a b) }
  where
    differ : (c d : ℕ) → (¬ (c ≡ a)) ⊎ (¬ (d ≡ b)) → ¬ ((c ≡ a) × (d ≡ b))
    differ c d (inl n) same = n same.0
    differ c d (inr n) same = n same.1

    at : (c d : ℕ) → c < old.n → d < old.n → ((c ≡ a) × (d ≡ b)) ⊎ ((¬ (c ≡ a)) ⊎ (¬ (d ≡ b))) → Rejects new c d ↔ (Rejects old c d ⊎ ((c ≡ a) × (d ≡ b)))
    at c d lc ld (inl same) = (λ h. inr same, λ h. subst (λ (u : ℕ). Rejects new u d) (sym same.0) (subst (λ (u : ℕ). Rejects new a u) (sym same.1) sets.set))
    at c d lc ld (inr o) = let k = keeps c d lc ld o in (λ h. inl (k.0 h), λ h. elim h as (λ _. Rejects new c d) [ inl r ↦ k.1 r | inr same ↦ absurd (differ c d o same) ])

pub sets_nothing : (these : ℕ → ℕ → Type 0) (t : TableParts) → ((a b : ℕ) → ¬ these a b) → SetsMore these t t
sets_nothing these t none = record { sectors = refl; bits = λ a b la lb. (λ r. inl r, λ h. elim h as (λ _. Rejects t a b) [ inl r ↦ r | inr w ↦ absurd (none a b w) ]) }

-- the same pairs in other words
pub sets_as : (these those : ℕ → ℕ → Type 0) (old new : TableParts) → ((a b : ℕ) → these a b → those a b) → ((a b : ℕ) → those a b → these a b) → SetsMore these old new → SetsMore those old new
sets_as these those old new to back h = record {
  sectors = h.sectors;
  bits = λ a b la lb. let x = h.bits a b la lb in (
    λ r. elim (x.0 r) as (λ _. Rejects old a b ⊎ those a b) [ inl o ↦ inl o | inr w ↦ inr (to a b w) ],
    λ k. x.1 (elim k as (λ _. Rejects old a b ⊎ these a b) [ inl o ↦ inl o | inr w ↦ inr (back a b w) ]),
  );
}

pub sets_then : (these those : ℕ → ℕ → Type 0) (old mid new : TableParts) → SetsMore these old mid → SetsMore those mid new → SetsMore (λ a b. these a b ⊎ those a b) old new
sets_then these those old mid new before more = record {
  sectors = more.sectors ∙ before.sectors;
  bits = λ a b la lb.
      let x = before.bits a b la lb in
      let y = more.bits a b (subst (λ (u : ℕ). a < u) (sym before.sectors) la) (subst (λ (u : ℕ). b < u) (sym before.sectors) lb) in (
        λ r. elim (y.0 r) as (λ _. Rejects old a b ⊎ (these a b ⊎ those a b)) [
          | inl m ↦ elim (x.0 m) as (λ _. Rejects old a b ⊎ (these a b ⊎ those a b)) [ inl o ↦ inl o | inr w ↦ inr (inl w) ]
          | inr w ↦ inr (inr w)
        ],
        λ h. elim h as (λ _. Rejects new a b) [
          | inl o ↦ y.1 (inl (x.1 (inl o)))
          | inr k ↦ elim k as (λ _. Rejects new a b) [ inl w ↦ y.1 (inl (x.1 (inr w))) | inr w ↦ y.1 (inr w) ]
        ],
      );
}

module _ (step : ℕ → ℕ → ℕ → Type 0) where
  pub sets_none : (t : TableParts) → SetsMore (OfSteps step 0) t t
  sets_none t = sets_nothing (OfSteps step 0) t (λ a b w. let lt = w.1 in omega (arith, lt))

  pub sets_next : (n : ℕ) (old mid new : TableParts) → SetsMore (OfSteps step n) old mid → SetsMore (step n) mid new → SetsMore (OfSteps step (n + 1)) old new
  sets_next n old mid new before more = sets_as (λ a b. OfSteps step n a b ⊎ step n a b) (OfSteps step (n + 1)) old new to back (sets_then (OfSteps step n) (step n) old mid new before more)
    where
      to : (a b : ℕ) → OfSteps step n a b ⊎ step n a b → OfSteps step (n + 1) a b
      to a b (inl w) = (w.0, (let lt = w.1 in omega (arith, lt)), w.2)
      to a b (inr w) = (n, omega arith, w)

      back : (a b : ℕ) → OfSteps step (n + 1) a b → OfSteps step n a b ⊎ step n a b
      back a b w = elim (below_or_last w.0 n w.1) as (λ _. OfSteps step n a b ⊎ step n a b) [ inl lt ↦ inl (w.0, lt, w.2) | inr e ↦ inr (subst (λ (i : ℕ). step i a b) e w.2) ]

  pub sets_skip : (n : ℕ) (old mid : TableParts) → SetsMore (OfSteps step n) old mid → ((a b : ℕ) → ¬ step n a b) → SetsMore (OfSteps step (n + 1)) old mid
  sets_skip n old mid before none = sets_next n old mid mid before (sets_nothing (step n) mid none)

  pub sets_past : (n m : ℕ) (old mid : TableParts) → n ≤ m → SetsMore (OfSteps step n) old mid → ((i : ℕ) → n ≤ i → i < m → (a b : ℕ) → ¬ step i a b) → SetsMore (OfSteps step m) old mid
  sets_past n m old mid le before none = sets_as (OfSteps step n) (OfSteps step m) old mid (λ a b w. (w.0, (let lt = w.1 in omega (arith, lt, le)), w.2)) back before
    where
      back : (a b : ℕ) → OfSteps step m a b → OfSteps step n a b
      back a b w = elim (below_or_not w.0 n) as (λ _. OfSteps step n a b) [ inl lt ↦ (w.0, lt, w.2) | inr past ↦ absurd (none w.0 past w.1 a b w.2) ]

  -- the same from a table without a bit
  pub steps_none : (sectors n : ℕ) (t : TableParts) → t.n ≡ sectors → t.bytes ≡ replicate n 0 → HasStepBits step 0 sectors t
  steps_none sectors n t size none = record { sectors_are = size; bits = λ a b la lb. (λ bit. absurd (clear_has_none t n none a b bit), λ w. let lt = w.1 in absurd (omega (arith, lt))) }

  pub steps_next : (n sectors : ℕ) (mid new : TableParts) → HasStepBits step n sectors mid → SetsMore (step n) mid new → HasStepBits step (n + 1) sectors new
  steps_next n sectors mid new before more = record {
    sectors_are = more.sectors ∙ before.sectors_are;
    bits = λ a b la lb.
        let x = before.bits a b la lb in
        let y = more.bits a b (subst (λ (u : ℕ). a < u) (sym before.sectors_are) la) (subst (λ (u : ℕ). b < u) (sym before.sectors_are) lb) in (
          λ r. elim (y.0 r) as (λ _. OfSteps step (n + 1) a b) [
            | inl m ↦ let w = x.0 m in (w.0, (let lt = w.1 in omega (arith, lt)), w.2)
            | inr s ↦ (n, omega arith, s)
          ],
          λ w. elim (below_or_last w.0 n w.1) as (λ _. Rejects new a b) [
            | inl lt ↦ y.1 (inl (x.1 (w.0, lt, w.2)))
            | inr e ↦ y.1 (inr (subst (λ (i : ℕ). step i a b) e w.2))
          ],
        );
  }
