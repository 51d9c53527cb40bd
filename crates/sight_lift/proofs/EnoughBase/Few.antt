-- A list without repetition, whose members have codes below a number that tell them apart, has at most so many members.
use Rattle.std.proofs.Common.{◌≡◌, ◌≢◌, ℕ, zero, suc, slice_index_or, ◌<◌, ◌≤◌, arith, refl, sym, subst, inl, inr, List, [], ◌∷◌, length, Bool, true, false, eqb-true}
use lib.Dec.{eqb}
use Rattle.std.specs.List.{IsDistinct, AllByRecursion, AllPairs, list_any}
use Rattle.std.proofs.lemmas.Bool.{false≢true}
use Rattle.std.proofs.lemmas.Map.Steps.{length-le_from_distinct_below}
use Rattle.math_base.proofs.Numbers.{tells_other}
use Rattle.math_base.proofs.Bools.{one_true}

-- no member is equal to a later one
abbrev pub Differ : {A : Type 0} → List A → Type 0
Differ [] = Unit {0}
Differ (x ∷ xs) = AllByRecursion (λ y. ¬ (x ≡ y)) xs × Differ xs

all_behind : {A : Type 0} (x d : A) (xs : List A) → ((j : ℕ) → j < length xs → ¬ (x ≡ slice_index_or xs j d)) → AllByRecursion (λ y. ¬ (x ≡ y)) xs
all_behind x d [] f = tt
all_behind x d (y ∷ ys) f = (f zero (omega arith), all_behind x d ys (λ j h. f (suc j) (omega arith)))

-- the same, from std's word for it
pub differ_of : {A : Type 0} (xs : List A) → AllPairs (λ (x y : A). x ≢ y) xs → Differ xs
differ_of [] h = tt
differ_of (x ∷ xs) h = (all_behind x x xs (λ j l. h zero (suc j) x (omega arith) (omega arith)), differ_of xs (λ i j d l k. h (suc i) (suc j) d (omega arith) (omega arith)))

module _ {A : Type 0} (IsCode : A → ℕ → Type 0) (n : ℕ) where
  abbrev pub HasCode : A → Type 0
  HasCode x = (c : ℕ) × (c < n) × IsCode x c

  abbrev codes : (xs : List A) → AllByRecursion HasCode xs → List ℕ
  codes [] h = []
  codes (x ∷ xs) h = h.0.0 ∷ codes xs h.1

  codes_length : (xs : List A) (h : AllByRecursion HasCode xs) → length (codes xs h) ≡ length xs
  codes_length [] h = refl
  codes_length (x ∷ xs) h = let r = codes_length xs h.1 in omega (arith, r)

  some_code : (q : ℕ) (xs : List A) (h : AllByRecursion HasCode xs) → list_any (eqb q) (codes xs h) ≡ true → q < n
  some_code q [] h e = absurd (false≢true e)
  some_code q (x ∷ xs) h e = elim (one_true (eqb q h.0.0) (list_any (eqb q) (codes xs h.1)) e) as (λ _. q < n) [
    | inl k ↦ let b = h.0.1 in let s = eqb-true q h.0.0 k in omega arith
    | inr k ↦ some_code q xs h.1 k
  ]

  module _ (one : (x y : A) (c : ℕ) → IsCode x c → IsCode y c → x ≡ y) where
    apart : (x : A) (c : ℕ) → IsCode x c → (xs : List A) (h : AllByRecursion HasCode xs) → AllByRecursion (λ y. ¬ (x ≡ y)) xs → AllByRecursion (λ d. eqb c d ≡ false) (codes xs h)
    apart x c p [] h k = tt
    apart x c p (y ∷ ys) h k = (tells_other c h.0.0 (λ e. k.0 (one x y c p (subst (IsCode y) (sym e) h.0.2))), apart x c p ys h.1 k.1)

    distinct : (xs : List A) (h : AllByRecursion HasCode xs) → Differ xs → IsDistinct eqb (codes xs h)
    unfolding IsDistinct
    distinct [] h d = tt
    distinct (x ∷ xs) h d = (apart x h.0.0 h.0.2 xs h.1 d.0, distinct xs h.1 d.1)

    pub few : (xs : List A) → AllByRecursion HasCode xs → Differ xs → length xs ≤ n
    few xs h d =
        let b = length-le_from_distinct_below (codes xs h) n (distinct xs h d) (λ q e. some_code q xs h e) in
        let l = codes_length xs h in
        omega (arith, b, l)
