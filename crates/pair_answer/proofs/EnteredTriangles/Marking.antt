-- Marks by number: one more, and those of lists.
use Rattle.std.proofs.Common.{◌≡◌, ℕ, zero, suc, ◌+◌, ◌<◌, ◌≤◌, ◌⊎◌, ◌↔◌, inl, inr, List, [], ◌∷◌, ◌++◌, Bool, true, false, Option, Some, slice_get, length, Contains, sym, ap, ◌∙◌, subst, arith}
use Rattle.std.specs.Prelude.{replicate, take, drop}
use Rattle.std.proofs.Math.Seq.{take-append_seam}
use Rattle.std.proofs.lemmas.Bool.{true≢false}
use Rattle.std.proofs.lemmas.Option.{none-some, same_Some, slice_get_within}
use Rattle.math_base.proofs.Lists.{contains_here, contains_left, contains_pushed, contains_right, pushed_at}
use Rattle.math_base.proofs.Numbers.{below_or_last}
use Rattle.sight_names.proofs.Lists.{contains_of_get, get_of_contains}
use Rattle.sight_names.specs.Order.{Ascends}
use Rattle.pair_answer.specs.EnteredTriangles.Entered.{IsOfSource}
use Rattle.pair_answer.specs.EnteredTriangles.Marks.{HasMarksOf, IsListOf, IsNumberMarked, IsMarkedToo, IsNamedBy}

-- what was written to a whole list
pub stored : {A : Type 0} (new old : List A) (n : ℕ) → length new ≡ n → take n (new ++ drop (length new) old) ≡ new
stored new old n e = ap (λ (k : ℕ). take k (new ++ drop (length new) old)) (sym e) ∙ take-append_seam new (drop (length new) old)

-- whichever the number
pub marked_too : (k : ℕ) (old new : List Bool) → k < length old → IsMarkedToo k old new → (j : ℕ) → IsNumberMarked new j ↔ (IsNumberMarked old j ⊎ (k ≡ j))
marked_too k old new low h j = (λ c. let l = slice_get_within new j true c in let e = h.len in (h.marks j (omega (arith, l, e))).0 c, λ c. (h.marks j (low_too c)).1 c)
  where
    low_too : IsNumberMarked old j ⊎ (k ≡ j) → j < length old
    low_too (inl c) = slice_get_within old j true c
    low_too (inr e) = subst (λ (i : ℕ). i < length old) e low

-- ---- the numbers that are marked

-- those below n
pub record ListsBelow (n : ℕ) (marks : List Bool) (ks : List ℕ) : Type 0 where
  pub ascend : Ascends ◌<◌ ks
  pub exactly : (k : ℕ) → Contains ks k ↔ ((k < n) × IsNumberMarked marks k)

module _ (n : ℕ) (marks : List Bool) (ks new : List ℕ) (h : ListsBelow n marks ks) where
  pub lists_more : slice_get marks n ≡ Some true → new ≡ ks ++ n ∷ [] → ListsBelow (n + 1) marks new
  lists_more at e = subst (ListsBelow (n + 1) marks) (sym e) (record { ascend = up; exactly = λ k. (λ c. to k (contains_pushed ks n k c), λ c. back k (below_or_last k n c.0) c.1) })
    where
      up : Ascends ◌<◌ (ks ++ n ∷ [])
      up i j x y lt f g = elim (pushed_at ks n x i f) as (λ _. x < y) [
        | inl a ↦ elim (pushed_at ks n y j g) as (λ _. x < y) [
          | inl b ↦ h.ascend i j x y lt a b
          | inr b ↦ (let l = ((h.exactly x).0 (contains_of_get ks x i a)).0 in let q = b.1 in omega (arith, l, q))
        ]
        | inr a ↦ elim (pushed_at ks n y j g) as (λ _. x < y) [
          | inl b ↦ absurd (let w = slice_get_within ks j y b in let q = a.0 in omega (arith, w, q, lt))
          | inr b ↦ absurd (let p = a.0 in let q = b.0 in omega (arith, p, q, lt))
        ]
      ]

      to : (k : ℕ) → Contains ks k ⊎ (n ≡ k) → (k < n + 1) × IsNumberMarked marks k
      to k (inl c) = let d = (h.exactly k).0 c in let l = d.0 in (omega (arith, l), d.1)
      to k (inr q) = (omega (arith, q), subst (IsNumberMarked marks) q at)

      back : (k : ℕ) → (k < n) ⊎ (k ≡ n) → IsNumberMarked marks k → Contains (ks ++ n ∷ []) k
      back k (inl l) c = contains_left k ks (n ∷ []) ((h.exactly k).1 (l, c))
      back k (inr q) c = contains_right k ks (n ∷ []) (subst (λ (i : ℕ). Contains (n ∷ []) i) (sym q) (contains_here n []))

  pub lists_skip : slice_get marks n ≡ Some false → new ≡ ks → ListsBelow (n + 1) marks new
  lists_skip at e = subst (ListsBelow (n + 1) marks) (sym e) (record { ascend = h.ascend; exactly = λ k. (λ c. (let d = (h.exactly k).0 c in let l = d.0 in (omega (arith, l), d.1)), λ c. back k (below_or_last k n c.0) c.1) })
    where
      back : (k : ℕ) → (k < n) ⊎ (k ≡ n) → IsNumberMarked marks k → Contains ks k
      back k (inl l) c = (h.exactly k).1 (l, c)
      back k (inr q) c = absurd (true≢false (same_Some true false (sym (subst (IsNumberMarked marks) q c) ∙ at)))

pub lists_all : (n : ℕ) (marks : List Bool) (ks : List ℕ) → length marks ≤ n → ListsBelow n marks ks → IsListOf marks ks
lists_all n marks ks le h = record {
  ascend = h.ascend;
  exactly = λ k. (λ c. ((h.exactly k).0 c).1, λ c. (h.exactly k).1 (let l = slice_get_within marks k true c in omega (arith, l, le), c));
}

-- ---- marks of a list

-- of its first n numbers
pub record MarksBelow (n count : ℕ) (ks : List ℕ) (marks : List Bool) : Type 0 where
  pub len : length marks ≡ count
  pub exactly : (k : ℕ) → IsNumberMarked marks k ↔ ((i : ℕ) × (i < n) × (slice_get ks i ≡ Some k))

pub no_mark : (count k : ℕ) (marks : List Bool) → marks ≡ replicate count false → ¬ IsNumberMarked marks k
no_mark zero k marks e c = none-some true (sym (ap (λ (bs : List Bool). slice_get bs k) e) ∙ c)
no_mark (suc n) k marks e c = at n k (sym (ap (λ (bs : List Bool). slice_get bs k) e) ∙ c)
  where
    at : (n k : ℕ) → slice_get (replicate (suc n) false) k ≡ Some true → ⊥
    at n zero h = true≢false (sym (same_Some false true h))
    at zero (suc k) h = none-some true h
    at (suc n) (suc k) h = at n k h

pub marks_more : (n count x : ℕ) (ks : List ℕ) (old new : List Bool) → slice_get ks n ≡ Some x → MarksBelow n count ks old → x < length old → IsMarkedToo x old new → MarksBelow (n + 1) count ks new
marks_more n count x ks old new at h low too = record { len = too.len ∙ h.len; exactly = λ k. (λ c. to k ((marked_too x old new low too k).0 c), λ c. (marked_too x old new low too k).1 (back k c.0 (below_or_last c.0 n c.1) c.2)) }
  where
    to : (k : ℕ) → IsNumberMarked old k ⊎ (x ≡ k) → (i : ℕ) × (i < n + 1) × (slice_get ks i ≡ Some k)
    to k (inl c) = let d = (h.exactly k).0 c in let l = d.1 in (d.0, omega (arith, l), d.2)
    to k (inr q) = (n, omega arith, at ∙ ap (λ (i : ℕ). Some i) q)

    back : (k i : ℕ) → (i < n) ⊎ (i ≡ n) → slice_get ks i ≡ Some k → IsNumberMarked old k ⊎ (x ≡ k)
    back k i (inl l) e = inl ((h.exactly k).1 (i, l, e))
    back k i (inr q) e = inr (same_Some x k (sym at ∙ ap (slice_get ks) (sym q) ∙ e))

pub marks_all : (n count : ℕ) (ks : List ℕ) (marks : List Bool) → length ks ≤ n → MarksBelow n count ks marks → HasMarksOf count ks marks
marks_all n count ks marks le h = record {
  len = h.len;
  exactly = λ k. (λ c. let d = (h.exactly k).0 c in contains_of_get ks k d.0 d.2, λ c. (h.exactly k).1 (let l = c.1 in (c.0, omega (arith, l, le), get_of_contains ks k c.0 c.1 c.2)));
}

-- ---- triangles of sources

-- of the first n triangles those of the sources are marked, too
pub record NamedBelow (n : ℕ) (ls : List (Option ℕ)) (sources : List ℕ) (old marks : List Bool) : Type 0 where
  pub len : length marks ≡ length old
  pub exactly : (k : ℕ) → k < length old → IsNumberMarked marks k ↔ (((k < n) × IsOfSource ls sources k) ⊎ IsNumberMarked old k)

named_source : (ls : List (Option ℕ)) (sources : List ℕ) (named : List Bool) (count k : ℕ) → HasMarksOf count sources named → IsNamedBy ls named k ↔ IsOfSource ls sources k
named_source ls sources named count k h = (λ c. (c.0, (h.exactly c.0).0 c.2, c.1), λ c. (c.0, c.2, (h.exactly c.0).1 c.1))

module _ (n : ℕ) (ls : List (Option ℕ)) (sources : List ℕ) (old marks new : List Bool) (h : NamedBelow n ls sources old marks) (named : List Bool) (count : ℕ) (of : HasMarksOf count sources named) where
  pub named_more : IsNamedBy ls named n → n < length marks → IsMarkedToo n marks new → NamedBelow (n + 1) ls sources old new
  named_more is low too = record { len = too.len ∙ h.len; exactly = λ k small. (λ c. to k ((marked_too n marks new low too k).0 c) small, λ c. (marked_too n marks new low too k).1 (back k small c)) }
    where
      to : (k : ℕ) → IsNumberMarked marks k ⊎ (n ≡ k) → k < length old → ((k < n + 1) × IsOfSource ls sources k) ⊎ IsNumberMarked old k
      to k (inl c) small = elim ((h.exactly k small).0 c) as (λ _. ((k < n + 1) × IsOfSource ls sources k) ⊎ IsNumberMarked old k) [ inl d ↦ inl (let l = d.0 in (omega (arith, l), d.1)) | inr d ↦ inr d ]
      to k (inr q) small = inl (omega (arith, q), subst (IsOfSource ls sources) q ((named_source ls sources named count n of).0 is))

      back : (k : ℕ) → k < length old → ((k < n + 1) × IsOfSource ls sources k) ⊎ IsNumberMarked old k → IsNumberMarked marks k ⊎ (n ≡ k)
      back k small (inl c) = elim (below_or_last k n c.0) as (λ _. IsNumberMarked marks k ⊎ (n ≡ k)) [ inl l ↦ inl ((h.exactly k small).1 (inl (l, c.1))) | inr q ↦ inr (sym q) ]
      back k small (inr c) = inl ((h.exactly k small).1 (inr c))

  pub named_skip : ¬ IsNamedBy ls named n → new ≡ marks → NamedBelow (n + 1) ls sources old new
  named_skip none e = subst (NamedBelow (n + 1) ls sources old) (sym e) (record { len = h.len; exactly = λ k small. (λ c. to k ((h.exactly k small).0 c), λ c. (h.exactly k small).1 (back k c)) })
    where
      to : (k : ℕ) → ((k < n) × IsOfSource ls sources k) ⊎ IsNumberMarked old k → ((k < n + 1) × IsOfSource ls sources k) ⊎ IsNumberMarked old k
      to k (inl c) = let l = c.0 in inl (omega (arith, l), c.1)
      to k (inr c) = inr c

      back : (k : ℕ) → ((k < n + 1) × IsOfSource ls sources k) ⊎ IsNumberMarked old k → ((k < n) × IsOfSource ls sources k) ⊎ IsNumberMarked old k
      back k (inl c) = elim (below_or_last k n c.0) as (λ _. ((k < n) × IsOfSource ls sources k) ⊎ IsNumberMarked old k) [ inl l ↦ inl (l, c.1) | inr q ↦ absurd (none ((named_source ls sources named count n of).1 (subst (IsOfSource ls sources) q c.1))) ]
      back k (inr c) = inr c
