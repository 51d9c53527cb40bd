-- Numbers put into a set one after the other, those that are in another set too.
use Rattle.std.proofs.Common.{◌≡◌, ◌≢◌, ℕ, ◌+◌, ◌<◌, ◌≤◌, ◌⊎◌, ◌↔◌, inl, inr, List, length, slice_get, Some, sym, ap, ◌∙◌, subst, arith, Contains}
use Rattle.std.proofs.lemmas.Option.{same_Some}
use Rattle.sight_names.proofs.Lists.{contains_of_get, get_of_contains}
use Rattle.math_base.proofs.Numbers.{same_or_not, below_or_last}
use Rattle.gate_floods.specs.GateMasks.Words.{HasBit, AreBitsOf}

-- what is in the set when the numbers before place n were passed
pub record AreKept (numbers other : List ℕ) (n : ℕ) (words : List ℕ) : Type 0 where
  pub told : (c : ℕ) → HasBit words c → Contains numbers c × HasBit other c
  pub tells : (i c : ℕ) → i < n → slice_get numbers i ≡ Some c → HasBit other c → HasBit words c

pub none_kept : (numbers other words : List ℕ) → ((c : ℕ) → ¬ HasBit words c) → AreKept numbers other 0 words
none_kept numbers other words none = record { told = λ c h. absurd (none c h); tells = λ i c lt. absurd (omega (arith, lt)) }

pub one_kept : (numbers other : List ℕ) (n c : ℕ) (words new : List ℕ) → slice_get numbers n ≡ Some c → ((d : ℕ) → HasBit new d ↔ (HasBit words d ⊎ ((d ≡ c) × HasBit other d))) → AreKept numbers other n words → AreKept numbers other (n + 1) new
one_kept numbers other n c words new at more k = record {
  told = λ d h. elim ((more d).0 h) as (λ _. Contains numbers d × HasBit other d) [
    | inl old ↦ k.told d old
    | inr it ↦ (subst (Contains numbers) (sym it.0) (contains_of_get numbers c n at), it.1)
  ];
  tells = λ i d lt is has. elim (below_or_last i n lt) as (λ _. HasBit new d) [
    | inl less ↦ (more d).1 (inl (k.tells i d less is has))
    | inr same ↦ (more d).1 (inr (same_Some d c (sym is ∙ ap (slice_get numbers) same ∙ at), has))
  ];
}

pub all_kept : (numbers other : List ℕ) (n : ℕ) (words : List ℕ) → length numbers ≤ n → AreKept numbers other n words → AreBitsOf words (λ c. Contains numbers c × HasBit other c)
all_kept numbers other n words past k c = (
  (λ (h : HasBit words c). k.told c h),
  (λ (h : Contains numbers c × HasBit other c). let w = h.0 in let lt = w.1 in k.tells w.0 c (omega (arith, lt, past)) (get_of_contains numbers c w.0 w.1 w.2) h.1),
)

-- one bit more
pub bit_more : (number : ℕ) (words new other : List ℕ) → HasBit other number → HasBit new number → ((c : ℕ) → c ≢ number → HasBit new c ↔ HasBit words c) → (c : ℕ) → HasBit new c ↔ (HasBit words c ⊎ ((c ≡ number) × HasBit other c))
bit_more number words new other both set others c = (there, back)
  where
    there : HasBit new c → HasBit words c ⊎ ((c ≡ number) × HasBit other c)
    there h = elim (same_or_not c number) as (λ _. HasBit words c ⊎ ((c ≡ number) × HasBit other c)) [
      | inl e ↦ inr (e, subst (HasBit other) (sym e) both)
      | inr differ ↦ inl ((others c differ).0 h)
    ]

    back : HasBit words c ⊎ ((c ≡ number) × HasBit other c) → HasBit new c
    back w = elim (same_or_not c number) as (λ _. HasBit new c) [
      | inl e ↦ subst (HasBit new) (sym e) set
      | inr differ ↦ elim w as (λ _. HasBit new c) [
        | inl old ↦ (others c differ).1 old
        | inr it ↦ absurd (differ it.0)
      ]
    ]

pub bit_same : (number : ℕ) (words other : List ℕ) → ¬ HasBit other number → (c : ℕ) → HasBit words c ↔ (HasBit words c ⊎ ((c ≡ number) × HasBit other c))
bit_same number words other none c = ((λ (h : HasBit words c). inl h), back)
  where
    back : HasBit words c ⊎ ((c ≡ number) × HasBit other c) → HasBit words c
    back (inl h) = h
    back (inr it) = absurd (none (subst (HasBit other) it.0 it.1))
