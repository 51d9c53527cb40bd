-- The list of pairs, one pair after the other.
use Rattle.std.proofs.Common.{◌≡◌, ◌≢◌, ℕ, ◌+◌, ◌<◌, ◌≤◌, ◌⊎◌, inl, inr, List, [], ◌∷◌, ◌++◌, length, slice_get, Contains, Some, sym, subst, arith}
use Rattle.std.proofs.lemmas.List.Elements.{Contains-append_left, Contains-push, Contains-push_cases}
use Rattle.std.proofs.lemmas.Option.{slice_get_within}
use Rattle.math_base.proofs.Lists.{pushed_at}
use Rattle.math_base.proofs.Numbers.{below_or_not}
use Rattle.sight_names.proofs.Lists.{contains_of_get}
use Rattle.sight_names.specs.declared.names.Pair.{Pair}
use Rattle.sight_names.specs.Order.{PairBefore}
use Rattle.reject_bits.specs.Parts.{TableParts}
use Rattle.pair_budget.specs.Rows.{IsPairBefore}
use Rattle.pair_budget.proofs.FoundSectorsLaws.{same_or_other, pair_is}
use Rattle.pair_budget.proofs.RowLaws.{later, earlier, this_place, next_row, whole_row}
use Rattle.group_job.specs.Rows.{IsBitBetween, ListedBefore}
use Rattle.group_job.specs.Sectors.{ListsBetween}

module _ (these others : TableParts) where
  pub list_skip : (a b m : ℕ) (xs : List Pair) → b ≤ m → ListedBefore these others a b xs → ((d : ℕ) → b ≤ d → d < m → ¬ IsBitBetween these others a d) → ListedBefore these others a m xs
  list_skip a b m xs le before none = record {
    exactly = λ q. (
      (λ c. let h = (before.exactly q).0 c in (h.0, further q.a q.b h.1)),
      (λ h. (before.exactly q).1 (h.0, nearer q.a q.b h.0 h.1)),
    );
    ascend = before.ascend;
  }
    where
      further : (c d : ℕ) → IsPairBefore c d a b → IsPairBefore c d a m
      further c d (inl h) = inl h
      further c d (inr h) = inr (h.0, (let lt = h.1 in omega (arith, lt, le)))

      nearer : (c d : ℕ) → IsBitBetween these others c d → IsPairBefore c d a m → IsPairBefore c d a b
      nearer c d l (inl h) = inl h
      nearer c d l (inr h) = elim (below_or_not d b) [
        | inl lt ↦ inr (h.0, lt)
        | inr past ↦ absurd (none d past h.1 (subst (λ (u : ℕ). IsBitBetween these others u d) h.0 l))
      ]

  pub list_push : (a b : ℕ) (xs : List Pair) → ListedBefore these others a b xs → IsBitBetween these others a b → ListedBefore these others a (b + 1) (xs ++ record { a = a; b = b } ∷ [])
  list_push a b xs before l = record {
    exactly = λ q. ((λ c. into q (Contains-push_cases xs (record { a = a; b = b }) q c)), (λ h. out q h (same_or_other q.a q.b a b)));
    ascend = λ i j x y lt h k. up i j x y lt (pushed_at xs (record { a = a; b = b }) x i h) (pushed_at xs (record { a = a; b = b }) y j k);
  }
    where
      into : (q : Pair) → Contains xs q ⊎ (record { a = a; b = b } ≡ q) → IsBitBetween these others q.a q.b × IsPairBefore q.a q.b a (b + 1)
      into q (inl c) = let h = (before.exactly q).0 c in (h.0, later q.a q.b a b h.1)
      into q (inr e) = subst (λ (r : Pair). IsBitBetween these others r.a r.b × IsPairBefore r.a r.b a (b + 1)) e (l, this_place a b)

      out : (q : Pair) → IsBitBetween these others q.a q.b × IsPairBefore q.a q.b a (b + 1) → ((q.a ≡ a) × (q.b ≡ b)) ⊎ ((q.a ≢ a) ⊎ (q.b ≢ b)) → Contains (xs ++ record { a = a; b = b } ∷ []) q
      out q h (inl same) = subst (λ (r : Pair). Contains (xs ++ record { a = a; b = b } ∷ []) r) (sym (pair_is q a b same.0 same.1)) (Contains-push xs (record { a = a; b = b }))
      out q h (inr o) = Contains-append_left xs (record { a = a; b = b } ∷ []) q ((before.exactly q).1 (h.0, earlier q.a q.b a b o h.1))

      up : (i j : ℕ) (x y : Pair) → i < j → (slice_get xs i ≡ Some x) ⊎ ((i ≡ length xs) × (record { a = a; b = b } ≡ x)) → (slice_get xs j ≡ Some y) ⊎ ((j ≡ length xs) × (record { a = a; b = b } ≡ y)) → PairBefore x y
      up i j x y lt (inl h) (inl k) = before.ascend i j x y lt h k
      up i j x y lt (inl h) (inr k) = subst (λ (r : Pair). PairBefore x r) k.1 ((before.exactly x).0 (contains_of_get xs x i h)).1
      up i j x y lt (inr h) (inl k) = let w = slice_get_within xs j y k in absurd (omega (arith, h.0, w, lt))
      up i j x y lt (inr h) (inr k) = absurd (omega (arith, h.0, k.0, lt))

  -- pairs have their smaller sector first, so a row begins behind its own number
  pub list_row_start : (a : ℕ) (xs : List Pair) → ListedBefore these others a 0 xs → ListedBefore these others a (a + 1) xs
  list_row_start a xs before = record {
    exactly = λ q. ((λ c. let h = (before.exactly q).0 c in (h.0, grown q.a q.b h.1)), (λ h. (before.exactly q).1 (h.0, shrunk q.a q.b h.0.0 h.1)));
    ascend = before.ascend;
  }
    where
      grown : (c d : ℕ) → IsPairBefore c d a 0 → IsPairBefore c d a (a + 1)
      grown c d (inl h) = inl h
      grown c d (inr h) = let k = h.1 in absurd (omega (arith, k))

      shrunk : (c d : ℕ) → c < d → IsPairBefore c d a (a + 1) → IsPairBefore c d a 0
      shrunk c d lt (inl h) = inl h
      shrunk c d lt (inr h) = let e = h.0 in let k = h.1 in absurd (omega (arith, lt, e, k))

  pub list_row_end : (a n : ℕ) (xs : List Pair) → these.n ≡ n → ListedBefore these others a n xs → ListedBefore these others (a + 1) 0 xs
  list_row_end a n xs size before = record {
    exactly = λ q. (
      (λ c. let h = (before.exactly q).0 c in (h.0, next_row q.a q.b a n h.1)),
      (λ h. (before.exactly q).1 (h.0, whole_row q.a q.b a n (subst (λ (u : ℕ). q.b < u) size h.0.1) h.1)),
    );
    ascend = before.ascend;
  }

  pub list_end : (n : ℕ) (xs : List Pair) → these.n ≡ n → ListedBefore these others n 0 xs → ListsBetween these others xs
  list_end n xs size before = record {
    exactly = λ q. (
      (λ c. ((before.exactly q).0 c).0),
      (λ l. (before.exactly q).1 (l, inl (under q.a q.b l.0 (subst (λ (u : ℕ). q.b < u) size l.1)))),
    );
    ascend = before.ascend;
  }
    where
      under : (c d : ℕ) → c < d → d < n → c < n
      under c d h k = omega (arith, h, k)
