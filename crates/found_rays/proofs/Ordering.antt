-- Rays in order: one more behind the last, and the first for each pair.
use Rattle.std.proofs.Common.{◌≡◌, ℕ, ◌+◌, ◌<◌, ◌≤◌, ◌⊎◌, inl, inr, List, [], ◌∷◌, ◌++◌, length, get_or, Some, Contains, IsPermutation, false, refl, sym, ap, ◌∙◌, subst, arith}
use Rattle.std.specs.List.{slice_get}
use Rattle.std.specs.List.Sorted.{IsSortedByKey}
use Rattle.std.specs.Ordering.{nat_cmp, ordering_then, is_lt}
use Rattle.std.proofs.lemmas.Bool.Decides.{nat_tests}
use Rattle.std.proofs.lemmas.List.Elements.{Contains-append_left, Contains-append_right}
use Rattle.std.proofs.lemmas.List.Sorted.{sorted_far, ranks_by, Contains-permutation, IsPermutation-sym}
use Rattle.std.proofs.lemmas.Option.{same_Some, slice_get_within, get_or_from_slice_get}
use Rattle.math_base.proofs.Lists.{pushed_at}
use Rattle.math_base.proofs.Numbers.{below_or_last}
use Rattle.sight_names.proofs.Lists.{get_of_contains, contains_of_get}
use Rattle.sight_names.specs.declared.names.PairRay.{PairRay}
use Rattle.sight_names.specs.Order.{Ascends, PairBefore}
use Rattle.pair_budget.specs.PairRays.{HasRayFor, pair_cmp}
use Rattle.pair_budget.proofs.FoundSectorsLaws.{pair_is}
use Rattle.pair_budget.proofs.RayLaws.{pair_cmp_total}
use Rattle.found_rays.specs.Rays.{AreOneEach, IsRayAdded, IsBehindAll, RayBefore}

-- ---- the last one

pub ascend_more : (rays : List PairRay) (r : PairRay) → Ascends RayBefore rays → IsBehindAll rays r → Ascends RayBefore (rays ++ r ∷ [])
ascend_more rays r up behind i j x y lt at_x at_y = go (pushed_at rays r x i at_x) (pushed_at rays r y j at_y)
  where
    go : (slice_get rays i ≡ Some x) ⊎ ((i ≡ length rays) × (r ≡ x)) → (slice_get rays j ≡ Some y) ⊎ ((j ≡ length rays) × (r ≡ y)) → PairBefore x.pair y.pair
    go (inl g) (inl k) = up i j x y lt g k
    go (inl g) (inr (e, same)) = subst (λ (z : PairRay). PairBefore x.pair z.pair) same (behind i x g)
    go (inr (e, same)) (inl k) = absurd (let l : j < length rays = slice_get_within rays j y k in omega (arith, l, lt, e))
    go (inr (e, same)) (inr (f, other)) = absurd (omega (arith, lt, e, f))

-- ---- one for each pair

-- one for each pair of the first n of all rays
pub record ArePicked (all : List PairRay) (n : ℕ) (rays : List PairRay) : Type 0 where
  pub ascend : Ascends RayBefore rays
  pub from : (r : PairRay) → Contains rays r → (j : ℕ) × (j < n) × (slice_get all j ≡ Some r)
  pub pairs : (j : ℕ) (r : PairRay) → j < n → slice_get all j ≡ Some r → HasRayFor rays r.pair.a r.pair.b

rising : (a b c d : ℕ) → is_lt (ordering_then (nat_cmp c a) (nat_cmp d b)) ≡ false → ((a < c) ⊎ ((a ≡ c) × (b < d))) ⊎ ((a ≡ c) × (b ≡ d))
rising a b c d h = grind (arith, nat_tests)

module _ (all : List PairRay) (sorted : IsSortedByKey (λ (r : PairRay). r.pair) pair_cmp all) where
  -- the pair of a later ray is behind that of an earlier one, or the same
  rise : (i j : ℕ) (r s : PairRay) → i < j → slice_get all i ≡ Some r → slice_get all j ≡ Some s → PairBefore r.pair s.pair ⊎ ((r.pair.a ≡ s.pair.a) × (r.pair.b ≡ s.pair.b))
  rise i j r s lt h k =
      let in' : j < length all = slice_get_within all j s k in
      let far : is_lt (pair_cmp (get_or all j r).pair (get_or all i r).pair) ≡ false = sorted_far (λ (x y : PairRay). is_lt (pair_cmp x.pair y.pair)) (ranks_by pair_cmp_total (λ (x : PairRay). x.pair)) all sorted i j r (omega arith) in' in
      let e : get_or all i r ≡ r = get_or_from_slice_get all i r r h in
      let f : get_or all j r ≡ s = get_or_from_slice_get all j s r k in
      let there : is_lt (pair_cmp s.pair r.pair) ≡ false = subst (λ (x : PairRay). is_lt (pair_cmp x.pair r.pair) ≡ false) f (subst (λ (y : PairRay). is_lt (pair_cmp (get_or all j r).pair y.pair) ≡ false) e far) in
      rising r.pair.a r.pair.b s.pair.a s.pair.b there

  pub one_picked : (n : ℕ) (r : PairRay) (old new : List PairRay) → slice_get all n ≡ Some r → ArePicked all n old → IsRayAdded r old new → ArePicked all (n + 1) new
  one_picked n r old new at h (inl (behind, is)) = subst (ArePicked all (n + 1)) (sym is) (record {
    ascend = ascend_more old r h.ascend behind;
    from = λ s c. elim (pushed_at old r s c.0 (get_of_contains (old ++ r ∷ []) s c.0 c.1 c.2)) as (λ _. (j : ℕ) × (j < n + 1) × (slice_get all j ≡ Some s)) [
      | inl there ↦ let w = h.from s (contains_of_get old s c.0 there) in (w.0, (let l = w.1 in omega (arith, l)), w.2)
      | inr (e, same) ↦ (n, omega arith, subst (λ (x : PairRay). slice_get all n ≡ Some x) same at)
    ];
    pairs = λ j s lt there. elim (below_or_last j n lt) as (λ _. HasRayFor (old ++ r ∷ []) s.pair.a s.pair.b) [
      | inl less ↦ let w = h.pairs j s less there in (w.0, Contains-append_left old (r ∷ []) w.0 w.1, w.2)
      | inr e ↦ let same : s ≡ r = same_Some s r (sym there ∙ ap (slice_get all) e ∙ at) in (s, subst (Contains (old ++ r ∷ [])) (sym same) (Contains-append_right old (r ∷ []) r (contains_of_get (r ∷ []) r 0 refl)), refl)
    ];
  })
  one_picked n r old new at h (inr (w, is)) = subst (ArePicked all (n + 1)) (sym is) (record {
    ascend = h.ascend;
    from = λ s c. let x = h.from s c in (x.0, (let l = x.1 in omega (arith, l)), x.2);
    pairs = λ j s lt there. elim (below_or_last j n lt) as (λ _. HasRayFor old s.pair.a s.pair.b) [
      | inl less ↦ h.pairs j s less there
      | inr e ↦ let same : s ≡ r = same_Some s r (sym there ∙ ap (slice_get all) e ∙ at) in subst (λ (x : PairRay). HasRayFor old x.pair.a x.pair.b) (sym same) last
    ];
  })
    where
      last : HasRayFor old r.pair.a r.pair.b
      last = let x = h.from w.0 w.1 in elim (rise x.0 n w.0 r x.1 x.2 at) as (λ _. HasRayFor old r.pair.a r.pair.b) [
        | inl before ↦ absurd (w.2 before)
        | inr (e, f) ↦ (w.0, w.1, pair_is w.0.pair r.pair.a r.pair.b e f)
      ]

pub all_picked : (found all rays : List PairRay) (n : ℕ) → IsPermutation found all → length all ≤ n → ArePicked all n rays → AreOneEach found rays
all_picked found all rays n moved end h = record {
  ascend = h.ascend;
  from = λ r c. let w = h.from r c in Contains-permutation all found r (IsPermutation-sym found all moved) (contains_of_get all r w.0 w.2);
  pairs = λ r c. let w = Contains-permutation found all r moved c in h.pairs w.0 r (let l = w.1 in omega (arith, l, end)) (get_of_contains all r w.0 w.1 w.2);
}
