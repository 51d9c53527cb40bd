-- The row of a sector that sees none, as a whole.
use Rattle.std.proofs.Common.{◌≡◌, ℕ, zero, suc, ◌+◌, ◌-◌, ◌<◌, ◌≤◌, inl, inr, ◌↔◌, ◌==◌, List, [], length, map, Some, Bool, true, false, IsTrue, refl, sym, ◌∙◌, ap, subst, arith}
use Rattle.std.specs.Prelude.{sum_by}
use Rattle.std.specs.List.{slice_get, range_with_len}
use Rattle.std.proofs.lemmas.Bool.{cases_lt, false≢true, eqb-true}
use Rattle.std.proofs.lemmas.List.{nil_from_length}
use Rattle.std.proofs.lemmas.Option.{same_Some}
use Rattle.math_base.proofs.Numbers.{below_or_last, below_same_or_above}
use Rattle.sight_names.specs.declared.names.Pair.{Pair}
use Rattle.sight_names.specs.Order.{PairBefore}
use Rattle.sight_names.proofs.Lists.{contains_of_get}
use Rattle.reject_bits.specs.Parts.{TableParts, Rejects}
use Rattle.cert_format.specs.Accepted.{EitherClear}
use Rattle.cert_checker.specs.declared.pairs.PairFacts.{PairFacts}
use Rattle.cert_checker.specs.Pairs.{pair, one_if, either_set, set_in_row, CanJudgeEach, Describes, IsListBelow, IsPlaceOfPair, IsRowFine, IsPairWithin}
use Rattle.cert_checker.specs.BlindRows.{HasNoGroup, IsNoneListed}
use Rattle.cert_checker.proofs.Counts.{row_more}

-- ---- groups

pub no_group_told : (members : List (List ℕ)) (a : ℕ) (fs : List ℕ) (r : Bool) → slice_get members a ≡ Some fs → r ≡ (length fs == 0) → IsTrue r ↔ HasNoGroup members a
no_group_told members a fs r at e = (λ t. at ∙ ap Some (nil_from_length fs (eqb-true _ _ (sym e ∙ t))), λ none. e ∙ ap (λ (xs : List ℕ). length xs == 0) (same_Some fs [] (sym at ∙ none)))

-- ---- the list

module _ (ps : List Pair) (a i : ℕ) (at : IsPlaceOfPair ps a a i) where
  -- the place is that of the next row too
  pub plain_place : (n : ℕ) → IsListBelow n ps → IsNoneListed ps a → IsPlaceOfPair ps (a + 1) (a + 1) i
  plain_place n list none = record {
    within = at.within;
    below = λ j p l h. before p (at.below j p l h);
    behind = λ j p l h f. behind j p l h (list.within j p h) f;
  }
    where
      before : (p : Pair) → PairBefore p (pair a a) → PairBefore p (pair (a + 1) (a + 1))
      before p (inl l) = inl (omega arith)
      before p (inr e) = inl (let h = e.0 in omega (arith, h))

      here : (j : ℕ) (p : Pair) → i ≤ j → slice_get ps j ≡ Some p → p.a ≡ a → ⊥
      here j p l h e = elim (cases_lt p.b a) as (λ _. ⊥) [
        | inl k ↦ at.behind j p l h (inr (e, k))
        | inr k ↦ none p.b k (contains_of_get ps (pair a p.b) j (h ∙ ap Some (same p e)))
      ]
        where
          same : (q : Pair) → q.a ≡ a → q ≡ pair a q.b
          same q e = λ x. record { a = e x; b = q.b }

      behind : (j : ℕ) (p : Pair) → i ≤ j → slice_get ps j ≡ Some p → IsPairWithin n p → PairBefore p (pair (a + 1) (a + 1)) → ⊥
      behind j p l h w (inr e) = let k = w.0 in let x = e.0 in let y = e.1 in omega (arith, k, x, y)
      behind j p l h w (inl f) = elim (cases_lt p.a a) as (λ _. ⊥) [
        | inl k ↦ at.behind j p l h (inl k)
        | inr k ↦ here j p l h (same f k)
      ]
        where
          same : p.a < a + 1 → a ≤ p.a → p.a ≡ a
          same f k = omega arith

-- ---- the pairs

module _ (t : TableParts) (a : ℕ) (row : (b : ℕ) → a ≤ b → b < t.n → Rejects t a b) where
  -- they are all counted as set
  pub plain_count : set_in_row t t.n a ≡ t.n - a
  plain_count = elim (cases_lt a t.n) as (λ _. set_in_row t t.n a ≡ t.n - a) [
    | inl l ↦ subst (λ (n : ℕ). set_in_row t n a ≡ t.n - a) (ends l) (so_many (t.n - a) (omega arith))
    | inr l ↦ ap (λ (m : ℕ). sum_by (λ x. x) (map (λ b. one_if (either_set t a b)) (range_with_len a m))) (none l) ∙ sym (none l)
  ]
    where
      ends : a < t.n → a + (t.n - a) ≡ t.n
      ends l = omega arith

      none : t.n ≤ a → t.n - a ≡ 0
      none l = omega arith

      so_many : (m : ℕ) → a + m ≤ t.n → set_in_row t (a + m) a ≡ m
      so_many zero l = ap (λ (m : ℕ). sum_by (λ x. x) (map (λ b. one_if (either_set t a b)) (range_with_len a m))) (let e : a + 0 - a ≡ 0 = omega arith in e)
      so_many (suc m) l =
          ap (λ (n : ℕ). set_in_row t n a) next
          ∙ row_more t a (a + m) true (omega arith) ((λ _. inl (row (a + m) (omega arith) (omega arith))), (λ _. refl))
          ∙ ap (λ (n : ℕ). n + 1) (so_many m (omega arith)) ∙ last
        where
          next : a + suc m ≡ a + m + 1
          next = omega arith

          last : m + 1 ≡ suc m
          last = omega arith

  -- and all fine
  pub plain_fine : (ps : List Pair) (can : ℕ → ℕ → PairFacts → Type 0) (fine : ℕ → ℕ → Type 0) → a < t.n → CanJudgeEach can t ps → ((b : ℕ) → a < b → b < t.n → Rejects t b a) → IsNoneListed ps a
      → ((b : ℕ) (given : PairFacts) → can a b given → ¬ IsTrue given.clear → ¬ IsTrue given.listed → fine a b) → IsRowFine fine t.n a
  plain_fine ps can fine within each column none told b l le = told b given (each a b given has) false≢true false≢true
    where
      given : PairFacts
      given = record { set = true; clear = false; listed = false }

      back : Rejects t b a
      back = elim (cases_lt a b) as (λ _. Rejects t b a) [ inl k ↦ column b k l | inr k ↦ subst (λ (c : ℕ). Rejects t c a) (same k) (row a (omega arith) within) ]
        where
          same : b ≤ a → a ≡ b
          same k = omega arith

      no_clear : EitherClear t.n t.bytes a b → ⊥
      no_clear (inl n) = n (row b le l)
      no_clear (inr n) = n back

      has : Describes t ps a b given
      has = record {
        from = within;
        to = l;
        set = ((λ _. inl (row b le l)), (λ _. refl));
        clear = ((λ x. absurd (false≢true x)), (λ c. absurd (no_clear c)));
        listed = ((λ x. absurd (false≢true x)), (λ c. absurd (none b le c)));
      }

-- ---- the columns

module _ (P : ℕ → Type 0) (t : TableParts) where
  -- one clear bit further on in a row
  pub set_on : (row from at next : ℕ) → ((a : ℕ) → from ≤ a → a < at → P a → Rejects t row a) → ¬ P at → ((a : ℕ) → at + 1 ≤ a → a < next → Rejects t row a) → (a : ℕ) → from ≤ a → a < next → P a → Rejects t row a
  set_on row from at next old here more a l h p = elim (below_same_or_above a at) as (λ _. Rejects t row a) [
    | inl k ↦ old a l k p
    | inr (inl e) ↦ absurd (here (subst P e p))
    | inr (inr k) ↦ more a (omega (arith, k)) h
  ]

  -- one row further on
  pub columns_on : (first row before next : ℕ) → ((a : ℕ) → a < first → ¬ P a) → ((a b : ℕ) → P a → a < before → a < b → b < row → Rejects t b a) → next ≤ before → ((a : ℕ) → first ≤ a → a < next → a < row → P a → Rejects t row a)
      → (a b : ℕ) → P a → a < next → a < b → b < row + 1 → Rejects t b a
  columns_on first row before next none old le here a b p l h k = elim (below_or_last b row k) as (λ _. Rejects t b a) [
    | inl m ↦ old a b p (omega (arith, l, le)) h m
    | inr e ↦ subst (λ (c : ℕ). Rejects t c a) (sym e) (elim (cases_lt a first) as (λ _. Rejects t row a) [
      | inl m ↦ absurd (none a m p)
      | inr m ↦ here a m l (omega (arith, h, e)) p
    ])
  ]
