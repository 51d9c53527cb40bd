-- Points in order: what sorting leaves, and what a search finds.
use Rattle.std.proofs.Common.{◌≡◌, ℕ, zero, suc, ◌+◌, ◌<◌, ◌⊎◌, inl, inr, List, [], ◌∷◌, length, slice_get, slice_index_or, Contains, Some, Err, true, false, ◌&&◌, ℤ, ◌<ℤ◌, refl, sym, ◌∙◌, subst, arith, IsPermutation, Ordering, Less, Equal, Greater}
use Rattle.std.specs.Ordering.{int_cmp, int_eq, ordering_then, is_lt, is_eq}
use Rattle.std.specs.Cmp.{IsTotalOrder, IsEquivalence}
use Rattle.std.specs.List.{AllByRecursion, HoldsAt, dedup}
use Rattle.std.specs.List.Retain.{IsFiltered, DiffersFromLast}
use Rattle.std.specs.List.Sorted.{IsSorted, IsStrictlySortedBy, IsBinarySearchResult}
use Rattle.std.proofs.lemmas.Cmp.{then_total, on_total, int_cmp_total, and_equiv, on_equiv, int_eq_equiv, tied_itself}
use Rattle.std.proofs.lemmas.List.Filters.{dedup_is}
use Rattle.std.proofs.lemmas.List.Kept.{Contains-dedup, Contains-from_dedup, IsStrictlySortedBy-dedup}
use Rattle.std.proofs.lemmas.List.Sorted.{Contains-permutation, IsPermutation-sym, searchable_from_sorted}
use borrow.Author.Differences.{ints}
use Rattle.sight_names.specs.declared.names.Pt.{Pt}
use Rattle.sight_names.specs.Plan.{IsBefore}
use Rattle.sight_names.specs.Points.{in_order, pt_eq}
use Rattle.sight_names.proofs.Lists.{same_ascending, get_of_contains, contains_cases}
use Rattle.sight_names.proofs.PlanPoints.{before_irreflexive, before_asymmetric, IsAscending, as_indices, in_order_ascends, in_order_from, in_order_has}
use Rattle.sight_names.proofs.Records.{same_pt}
use Rattle.map_lumps.specs.Records.{ArePointsInOrder}
use Rattle.math_base.proofs.Numbers.{below_or_not}
use Rattle.math_base.proofs.Lists.{contains_none}

-- by x, then by y
abbrev pub pt_cmp : Pt → Pt → Ordering
pt_cmp p q = ordering_then (int_cmp p.x q.x) (int_cmp p.y q.y)

pub pt_cmp_total : IsTotalOrder pt_cmp
pt_cmp_total = then_total (on_total (λ (p : Pt). p.x) int_cmp_total) (on_total (λ (p : Pt). p.y) int_cmp_total)

less_lex : (a b c d : ℤ) → ordering_then (int_cmp a b) (int_cmp c d) ≡ Less → (a <ℤ b) ⊎ ((a ≡ b) × (c <ℤ d))
less_lex a b c d h = grind (arith, ints)

equal_lex : (a b c d : ℤ) → ordering_then (int_cmp a b) (int_cmp c d) ≡ Equal → (a ≡ b) × (c ≡ d)
equal_lex a b c d h = grind (arith, ints)

ties_lex : (a b c d : ℤ) → (int_eq a b && int_eq c d) ≡ is_eq (ordering_then (int_cmp a b) (int_cmp c d))
ties_lex a b c d = grind (arith, ints)

same_lex : (a b c d : ℤ) → (int_eq a b && int_eq c d) ≡ true → (a ≡ b) × (c ≡ d)
same_lex a b c d h = grind (arith, ints)

pub less_is_before : (p q : Pt) → pt_cmp p q ≡ Less → IsBefore p q
less_is_before p q h = less_lex p.x q.x p.y q.y h

pt_same : (p q : Pt) → (p.x ≡ q.x) × (p.y ≡ q.y) → p ≡ q
pt_same p q h = same_pt p q h.0 h.1

pub equal_is_same : (p q : Pt) → pt_cmp p q ≡ Equal → p ≡ q
equal_is_same p q h = pt_same p q (equal_lex p.x q.x p.y q.y h)

pub pt_eq_equiv : IsEquivalence pt_eq
pt_eq_equiv = and_equiv (on_equiv (λ (p : Pt). p.x) int_eq_equiv) (on_equiv (λ (p : Pt). p.y) int_eq_equiv)

-- ---- what sorting leaves

all_later : (P : Pt → Type 0) (xs : List Pt) → AllByRecursion P xs → (e : Pt) → Contains xs e → P e
all_later P [] h e c = absurd (contains_none e c)
all_later P (x ∷ xs) h e c = elim (contains_cases x e xs c) [ inl q ↦ subst P q h.0 | inr k ↦ all_later P xs h.1 e k ]

ascending_of_sorted : (xs : List Pt) → IsStrictlySortedBy pt_cmp xs → IsAscending xs
unfolding IsStrictlySortedBy
ascending_of_sorted [] h = tt
ascending_of_sorted (x ∷ xs) h = ((λ e c. less_is_before x e (all_later (λ y. pt_cmp x y ≡ Less) xs h.0 e c)), ascending_of_sorted xs h.1)

-- sorted and without repeats, a list is the list in order
pub sorted_is : (xs ys zs : List Pt) → IsPermutation xs ys → IsSorted pt_cmp ys → IsFiltered (DiffersFromLast pt_eq) [] ys zs → zs ≡ in_order xs
sorted_is xs ys zs moved sorted kept =
    let is : zs ≡ dedup pt_eq ys = dedup_is pt_eq ys zs kept in
    is ∙ same_ascending IsBefore before_irreflexive before_asymmetric (dedup pt_eq ys) (in_order xs)
    (as_indices _ (ascending_of_sorted _ (IsStrictlySortedBy-dedup pt_cmp_total (λ p q. ties_lex p.x q.x p.y q.y) ys sorted)))
    (as_indices _ (in_order_ascends xs))
    (λ e c. in_order_has xs e (Contains-permutation ys xs e (IsPermutation-sym xs ys moved) (Contains-from_dedup pt_eq ys e c)))
    (λ e c. Contains-dedup pt_eq_equiv (λ p q h. pt_same p q (same_lex p.x q.x p.y q.y h)) ys e (Contains-permutation xs ys e moved (in_order_from xs e c)))

pub in_order_is : (ps : List Pt) → ArePointsInOrder (in_order ps)
in_order_is ps = record { ascend = as_indices (in_order ps) (in_order_ascends ps) }

-- ---- what a search finds

pub get_at : (points : List Pt) (k : ℕ) (d : Pt) → k < length points → slice_get points k ≡ Some (slice_index_or points k d)
get_at [] k d h = absurd (omega arith)
get_at (p ∷ ps) zero d h = refl
get_at (p ∷ ps) (suc k) d h = get_at ps k d (omega arith)

not_less : (o : Ordering) → (o ≡ Less → ⊥) → is_lt o ≡ false
not_less Less h = absurd (h refl)
not_less Equal h = refl
not_less Greater h = refl

sorted_of_order : (points : List Pt) → ArePointsInOrder points → IsSorted pt_cmp points
sorted_of_order points h k d low high =
    not_less _ (λ less. before_asymmetric (slice_index_or points (k + 1) d) (slice_index_or points k d) (less_is_before (slice_index_or points (k + 1) d) (slice_index_or points k d) less) (h.ascend k (k + 1) _ _ (omega arith) (get_at points k d (omega arith)) (get_at points (k + 1) d high)))

-- a point that is there is found
pub search_finds : (points : List Pt) (p : Pt) (i : ℕ) → ArePointsInOrder points → Contains points p → IsBinarySearchResult (λ y. pt_cmp y p) points (Err i) → ⊥
search_finds points p i order there h =
    let parts = h (searchable_from_sorted pt_cmp_total (λ (y : Pt). y) points p (sorted_of_order points order)) in
    let self : pt_cmp (slice_index_or points there.0 p) p ≡ Equal = subst (λ (y : Pt). pt_cmp y p ≡ Equal) (sym there.2) (tied_itself pt_cmp_total p) in
    elim (below_or_not there.0 i) [
      | inl below ↦ less_equal _ (parts.0 there.0 p (omega arith) below) self
      | inr above ↦ greater_equal _ (parts.1 there.0 p above there.1) self
    ]
  where
    less_equal : (o : Ordering) → o ≡ Less → o ≡ Equal → ⊥
    less_equal o h k = cc

    greater_equal : (o : Ordering) → o ≡ Greater → o ≡ Equal → ⊥
    greater_equal o h k = cc

-- what is found is the point
pub found_is : (points : List Pt) (p : Pt) (k : ℕ) → k < length points → HoldsAt (λ y. pt_cmp y p ≡ Equal) points k → slice_get points k ≡ Some p
found_is points p k h same = get_of_contains points p k h (equal_is_same _ p (same p))
