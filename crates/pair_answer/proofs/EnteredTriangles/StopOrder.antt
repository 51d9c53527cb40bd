-- Sorted and without repeats, stops ascend strictly, with the same members.
use Rattle.std.proofs.Common.{◌≡◌, ℕ, zero, suc, ◌<◌, ◌⊎◌, List, [], ◌∷◌, slice_get, Some, Bool, true, ◌&&◌, ◌==◌, sym, subst, arith, IsPermutation, Ordering, Less}
use Rattle.std.specs.Ordering.{nat_cmp, ordering_then, is_eq}
use Rattle.std.specs.Cmp.{IsTotalOrder, IsEquivalence}
use Rattle.std.specs.List.{dedup}
use Rattle.std.specs.List.Retain.{IsFiltered, DiffersFromLast}
use Rattle.std.specs.List.Sorted.{IsSorted, IsStrictlySortedBy}
use Rattle.std.proofs.lemmas.Cmp.{then_total, on_total, nat_cmp_total, nat_eq_equiv, and_equiv, on_equiv}
use Rattle.std.proofs.lemmas.List.Filters.{dedup_is}
use Rattle.std.proofs.lemmas.List.Kept.{Contains-dedup, Contains-from_dedup, IsStrictlySortedBy-dedup}
use Rattle.std.proofs.lemmas.List.Sorted.{Contains-permutation, IsPermutation-sym}
use Rattle.std.proofs.lemmas.Option.{same_Some, none-some}
use Rattle.math_base.proofs.Lists.{all_at}
use Rattle.map_picture.specs.declared.pair.Stop.{Stop}
use Rattle.pair_answer.specs.EnteredTriangles.Stops.{AreStopsInOrder, StopBefore}

abbrev stop_cmp : Stop → Stop → Ordering
stop_cmp n o = ordering_then (nat_cmp n.from o.from) (nat_cmp n.to o.to)

abbrev stop_eq : Stop → Stop → Bool
stop_eq n o = n.from == o.from && n.to == o.to

stop_cmp_total : IsTotalOrder stop_cmp
stop_cmp_total = then_total (on_total (λ (n : Stop). n.from) nat_cmp_total) (on_total (λ (n : Stop). n.to) nat_cmp_total)

less_lex : (a b c d : ℕ) → ordering_then (nat_cmp a b) (nat_cmp c d) ≡ Less → (a < b) ⊎ ((a ≡ b) × (c < d))
less_lex a b c d h = grind arith

ties_lex : (a b c d : ℕ) → (a == b && c == d) ≡ is_eq (ordering_then (nat_cmp a b) (nat_cmp c d))
ties_lex a b c d = grind arith

same_lex : (a b c d : ℕ) → (a == b && c == d) ≡ true → (a ≡ b) × (c ≡ d)
same_lex a b c d h = grind arith

abbrev stop_at : ℕ → ℕ → Stop
stop_at a b = record { from = a; to = b }

stop_of_numbers : (a b c d : ℕ) → a ≡ c → b ≡ d → stop_at a b ≡ stop_at c d
stop_of_numbers a b c d e f = cc

same_stop : (n o : Stop) → stop_eq n o ≡ true → n ≡ o
same_stop n o h = let e = same_lex n.from o.from n.to o.to h in stop_of_numbers n.from n.to o.from o.to e.0 e.1

ascend_later : (ns : List Stop) → IsStrictlySortedBy stop_cmp ns → (i j : ℕ) (n o : Stop) → i < j → slice_get ns i ≡ Some n → slice_get ns j ≡ Some o → StopBefore n o
unfolding IsStrictlySortedBy
ascend_later [] h i j n o lt p q = absurd (none-some n p)
ascend_later (x ∷ xs) h zero zero n o lt p q = absurd (omega arith)
ascend_later (x ∷ xs) h zero (suc j) n o lt p q = subst (λ (y : Stop). StopBefore y o) (same_Some x n p) (less_lex x.from o.from x.to o.to (all_at (λ y. stop_cmp x y ≡ Less) xs h.0 j o q))
ascend_later (x ∷ xs) h (suc i) zero n o lt p q = absurd (omega arith)
ascend_later (x ∷ xs) h (suc i) (suc j) n o lt p q = ascend_later xs h.1 i j n o (omega arith) p q

pub in_order_of : (all sorted left : List Stop) → IsPermutation all sorted → IsSorted stop_cmp sorted → IsFiltered (DiffersFromLast stop_eq) [] sorted left → AreStopsInOrder all left
in_order_of all sorted left moved up kept =
    let is : left ≡ dedup stop_eq sorted = dedup_is stop_eq sorted left kept in
    subst (AreStopsInOrder all) (sym is) (record {
      ascend = ascend_later (dedup stop_eq sorted) (IsStrictlySortedBy-dedup stop_cmp_total (λ n o. ties_lex n.from o.from n.to o.to) sorted up);
      exactly = λ n. (
        λ c. Contains-permutation sorted all n (IsPermutation-sym all sorted moved) (Contains-from_dedup stop_eq sorted n c),
        λ c. Contains-dedup stop_eq_equiv same_stop sorted n (Contains-permutation all sorted n moved c),
      );
    })
  where
    stop_eq_equiv : IsEquivalence stop_eq
    stop_eq_equiv = and_equiv (on_equiv (λ (n : Stop). n.from) nat_eq_equiv) (on_equiv (λ (n : Stop). n.to) nat_eq_equiv)
