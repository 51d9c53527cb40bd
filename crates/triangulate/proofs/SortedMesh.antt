-- Sorted and without repeats, the triangles are a list that ascends strictly, with the same members.
use Rattle.std.proofs.Common.{◌≡◌, ℕ, zero, suc, ◌<◌, ◌⊎◌, inl, inr, List, [], ◌∷◌, slice_get, Contains, Some, Bool, true, ◌&&◌, ◌==◌, refl, sym, subst, arith, IsPermutation, Ordering, Less, Equal, Greater}
use Rattle.std.specs.Ordering.{nat_cmp, ordering_then, is_eq}
use Rattle.std.specs.Cmp.{IsTotalOrder, IsEquivalence}
use Rattle.std.specs.List.{AllByRecursion, dedup}
use Rattle.std.specs.List.Retain.{IsFiltered, DiffersFromLast}
use Rattle.std.specs.List.Sorted.{IsSorted, IsStrictlySortedBy}
use Rattle.std.proofs.lemmas.Cmp.{then_total, on_total, nat_cmp_total, nat_eq_equiv, and_equiv, on_equiv}
use Rattle.std.proofs.lemmas.List.Filters.{dedup_is}
use Rattle.std.proofs.lemmas.Option.{same_Some}
use Rattle.std.proofs.lemmas.List.Kept.{Contains-dedup, Contains-from_dedup, IsStrictlySortedBy-dedup}
use Rattle.std.proofs.lemmas.List.Sorted.{Contains-permutation, IsPermutation-sym}
use Rattle.sight_names.specs.declared.names.Triangle.{Triangle}
use Rattle.sight_names.specs.Mesh.{AreTriangles, IsTriangle, IsAbove}
use Rattle.sight_names.proofs.Lists.{contains_cases, contains_of_get}
use Rattle.triangulate.specs.Left.{AreTrianglesSorted}
use Rattle.math_base.proofs.Lists.{contains_none}

-- by the first number, then the second, then the third
abbrev pub tri_cmp : Triangle → Triangle → Ordering
tri_cmp t u = ordering_then (nat_cmp t.p u.p) (ordering_then (nat_cmp t.q u.q) (nat_cmp t.r u.r))

abbrev pub tri_eq : Triangle → Triangle → Bool
tri_eq t u = t.p == u.p && (t.q == u.q && t.r == u.r)

tri_cmp_total : IsTotalOrder tri_cmp
tri_cmp_total = then_total (on_total (λ (t : Triangle). t.p) nat_cmp_total) (then_total (on_total (λ (t : Triangle). t.q) nat_cmp_total) (on_total (λ (t : Triangle). t.r) nat_cmp_total))

cmp_less : (a b : ℕ) → nat_cmp a b ≡ Less → a < b
cmp_less a b h = grind arith

cmp_equal : (a b : ℕ) → nat_cmp a b ≡ Equal → a ≡ b
cmp_equal a b h = grind arith

then_less : (o q : Ordering) → ordering_then o q ≡ Less → (o ≡ Less) ⊎ ((o ≡ Equal) × (q ≡ Less))
then_less Less q h = inl refl
then_less Equal q h = inr (refl, h)
then_less Greater q h = inl h

less_lex : (a b c d e f : ℕ) → ordering_then (nat_cmp a b) (ordering_then (nat_cmp c d) (nat_cmp e f)) ≡ Less → (a < b) ⊎ ((a ≡ b) × ((c < d) ⊎ ((c ≡ d) × (e < f))))
less_lex a b c d e f h = elim (then_less (nat_cmp a b) (ordering_then (nat_cmp c d) (nat_cmp e f)) h) as (λ _. (a < b) ⊎ ((a ≡ b) × ((c < d) ⊎ ((c ≡ d) × (e < f))))) [
  | inl k ↦ inl (cmp_less a b k)
  | inr k ↦ elim (then_less (nat_cmp c d) (nat_cmp e f) k.1) as (λ _. (a < b) ⊎ ((a ≡ b) × ((c < d) ⊎ ((c ≡ d) × (e < f))))) [
    | inl j ↦ inr (cmp_equal a b k.0, inl (cmp_less c d j))
    | inr j ↦ inr (cmp_equal a b k.0, inr (cmp_equal c d j.0, cmp_less e f j.1))
  ]
]

ties_lex : (a b c d e f : ℕ) → (a == b && (c == d && e == f)) ≡ is_eq (ordering_then (nat_cmp a b) (ordering_then (nat_cmp c d) (nat_cmp e f)))
ties_lex a b c d e f = grind arith

same_lex : (a b c d e f : ℕ) → (a == b && (c == d && e == f)) ≡ true → (a ≡ b) × (c ≡ d) × (e ≡ f)
same_lex a b c d e f h = grind arith

same_tri : (t u : Triangle) → tri_eq t u ≡ true → t ≡ u
same_tri t u h = let e = same_lex t.p u.p t.q u.q t.r u.r h in λ i. record { p = e.0 i; q = e.1 i; r = e.2 i }

all_later : (P : Triangle → Type 0) (xs : List Triangle) → AllByRecursion P xs → (e : Triangle) → Contains xs e → P e
all_later P [] h e c = absurd (contains_none e c)
all_later P (x ∷ xs) h e c = elim (contains_cases x e xs c) as (λ _. P e) [ inl q ↦ subst P q h.0 | inr k ↦ all_later P xs h.1 e k ]

above_later : (xs : List Triangle) → IsStrictlySortedBy tri_cmp xs → (i j : ℕ) (t u : Triangle) → i < j → slice_get xs i ≡ Some t → slice_get xs j ≡ Some u → IsAbove t u
unfolding IsStrictlySortedBy
above_later [] h i j t u lt p q = absurd (contains_none t (contains_of_get [] t i p))
above_later (x ∷ xs) h zero zero t u lt p q = absurd (omega arith)
above_later (x ∷ xs) h zero (suc j) t u lt p q =
    let same : x ≡ t = same_Some x t p in
    subst (λ (y : Triangle). IsAbove y u) same (let o = all_later (λ y. tri_cmp x y ≡ Less) xs h.0 u (contains_of_get xs u j q) in less_lex x.p u.p x.q u.q x.r u.r o)
above_later (x ∷ xs) h (suc i) zero t u lt p q = absurd (omega arith)
above_later (x ∷ xs) h (suc i) (suc j) t u lt p q = above_later xs h.1 i j t u (omega arith) p q

pub in_order_of : (found sorted left : List Triangle) → IsPermutation found sorted → IsSorted tri_cmp sorted → IsFiltered (DiffersFromLast tri_eq) [] sorted left → AreTrianglesSorted found left
in_order_of found sorted left moved up kept =
    let is : left ≡ dedup tri_eq sorted = dedup_is tri_eq sorted left kept in
    subst (AreTrianglesSorted found) (sym is) (record {
      ascend = above_later (dedup tri_eq sorted) (IsStrictlySortedBy-dedup tri_cmp_total (λ t u. ties_lex t.p u.p t.q u.q t.r u.r) sorted up);
      from_found = λ t c. Contains-permutation sorted found t (IsPermutation-sym found sorted moved) (Contains-from_dedup tri_eq sorted t c);
      has_found = λ t c. Contains-dedup tri_eq_equiv same_tri sorted t (Contains-permutation found sorted t moved c);
    })
  where
    tri_eq_equiv : IsEquivalence tri_eq
    tri_eq_equiv = and_equiv (on_equiv (λ (t : Triangle). t.p) nat_eq_equiv) (and_equiv (on_equiv (λ (t : Triangle). t.q) nat_eq_equiv) (on_equiv (λ (t : Triangle). t.r) nat_eq_equiv))

pub triangles_in_order : (n : ℕ) (found left : List Triangle) → AreTrianglesSorted found left → ((t : Triangle) → Contains found t → IsTriangle n t) → AreTriangles n left
triangles_in_order n found left h each = record { each = λ k t e. each t (h.from_found t (contains_of_get left t k e)); ascend = h.ascend }
