-- Lists of numbers: one more at the end, and the first n of them.
use Rattle.std.proofs.Common.{◌≡◌, ℕ, ◌+◌, ◌≤◌, ◌⊎◌, ◌↔◌, inl, inr, List, [], ◌∷◌, ◌++◌, Bool, true, false, IsTrue, Some, slice_get, length, Contains, refl, sym, subst, arith, ◌∙◌}
use Rattle.std.proofs.lemmas.Bool.{false≢true}
use Rattle.std.proofs.lemmas.Option.{same_Some}
use Rattle.math_base.proofs.Lists.{contains_here, contains_left, contains_pushed, contains_right}
use Rattle.math_base.proofs.Numbers.{below_or_last}
use Rattle.sight_names.proofs.Lists.{contains_of_get, get_of_contains}
use Rattle.pair_answer.specs.Numbers.{added, IsAmongFirst}

pub added_is : (b : Bool) (x : ℕ) (old new : List ℕ) → new ≡ added b x old → (f : ℕ) → Contains new f ↔ (Contains old f ⊎ (IsTrue b × (x ≡ f)))
added_is true x old new e f = (λ c. there (contains_pushed old x f (subst (λ (xs : List ℕ). Contains xs f) e c)), λ h. subst (λ (xs : List ℕ). Contains xs f) (sym e) (back h))
  where
    there : Contains old f ⊎ (x ≡ f) → Contains old f ⊎ (IsTrue true × (x ≡ f))
    there (inl c) = inl c
    there (inr q) = inr (refl, q)

    back : Contains old f ⊎ (IsTrue true × (x ≡ f)) → Contains (old ++ x ∷ []) f
    back (inl c) = contains_left f old (x ∷ []) c
    back (inr q) = contains_right f old (x ∷ []) (subst (λ (y : ℕ). Contains (x ∷ []) y) q.1 (contains_here x []))
added_is false x old new e f = (λ c. inl (subst (λ (xs : List ℕ). Contains xs f) e c), λ h. subst (λ (xs : List ℕ). Contains xs f) (sym e) (back h))
  where
    back : Contains old f ⊎ (IsTrue false × (x ≡ f)) → Contains old f
    back (inl c) = c
    back (inr q) = absurd (false≢true q.0)

module _ (n : ℕ) (xs : List ℕ) where
  pub among_contains : (f : ℕ) → IsAmongFirst n xs f → Contains xs f
  among_contains f h = contains_of_get xs f h.0 h.2

  pub contains_among : (f : ℕ) → length xs ≤ n → Contains xs f → IsAmongFirst n xs f
  contains_among f le c = let l = c.1 in (c.0, omega (arith, le, l), get_of_contains xs f c.0 c.1 c.2)

  pub among_next : (f : ℕ) → IsAmongFirst (n + 1) xs f → IsAmongFirst n xs f ⊎ (slice_get xs n ≡ Some f)
  among_next f h = elim (below_or_last h.0 n h.1) as (λ _. IsAmongFirst n xs f ⊎ (slice_get xs n ≡ Some f)) [ inl l ↦ inl (h.0, l, h.2) | inr e ↦ inr (subst (λ (i : ℕ). slice_get xs i ≡ Some f) e h.2) ]

  pub among_more : (f : ℕ) → IsAmongFirst n xs f → IsAmongFirst (n + 1) xs f
  among_more f h = let l = h.1 in (h.0, omega (arith, l), h.2)

  pub among_last : (f : ℕ) → slice_get xs n ≡ Some f → IsAmongFirst (n + 1) xs f
  among_last f e = (n, omega arith, e)

  -- what none of the first n is, and not the next one, none of the first n + 1 is
  pub none_next : (P : ℕ → Type 0) (x : ℕ) → slice_get xs n ≡ Some x → ((f : ℕ) → IsAmongFirst n xs f → ¬ P f) → ¬ P x → (f : ℕ) → IsAmongFirst (n + 1) xs f → ¬ P f
  none_next P x there none last f h = elim (among_next f h) as (λ _. ¬ P f) [ inl m ↦ none f m | inr e ↦ subst (λ (y : ℕ). ¬ P y) (same_Some x f (sym there ∙ e)) last ]

  pub none_all : (P : ℕ → Type 0) → length xs ≤ n → ((f : ℕ) → IsAmongFirst n xs f → ¬ P f) → (f : ℕ) → Contains xs f → ¬ P f
  none_all P le none f c = none f (contains_among f le c)
