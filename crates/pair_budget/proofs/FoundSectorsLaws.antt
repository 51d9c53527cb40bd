-- What is gathered of all that was found: one ray for each pair of which one found the other.
use Rattle.std.proofs.Common.{◌≡◌, ◌≢◌, ℕ, zero, suc, ◌+◌, ◌<◌, ◌⊎◌, ◌↔◌, inl, inr, List, [], ◌∷◌, ◌++◌, length, map, take, get_or, slice_get, Contains, Some, refl, sym, ap, ◌∙◌, subst, arith, Bool, true, false, ap₂, append_assoc}
use Rattle.std.specs.Prelude.{nat_lt, if◌then◌else◌}
use Rattle.std.proofs.lemmas.Bool.{ltb-true, ltb-false}
use Rattle.std.proofs.lemmas.List.Elements.{Contains-append_left, Contains-append_right, Contains-append_cases, Contains-push, Contains-push_cases}
use Rattle.std.proofs.lemmas.List.{map_more}
use Rattle.std.proofs.lemmas.Option.{slice_get_within, same_Some}
use Rattle.sight_names.proofs.Lists.{contains_cases, contains_tail, contains_of_get, get_of_contains}
use Rattle.sight_names.specs.declared.names.Pair.{Pair}
use Rattle.sight_names.specs.declared.names.PairRay.{PairRay}
use Rattle.sight_names.specs.Plan.{PlanParts}
use Rattle.reject_bits.specs.Parts.{TableParts, Rejects, SetsPair, KeepsOtherPairs}
use Rattle.pair_budget.specs.declared.results.Reached.{Reached}
use Rattle.pair_budget.specs.declared.results.SourceResult.{SourceResult}
use Rattle.pair_budget.specs.Walked.{IsReachedFrom}
use Rattle.pair_budget.specs.Decide.{AreResults, AreFound, IsRayOfResults, turned_ray}
use Rattle.pair_budget.specs.PairRays.{PairRaysParts, HasRayFor, AreRayPairsMarked, IsRayNoted, toward, all_rays, KeepsOneEach}
use Rattle.pair_budget.specs.Rows.{KnowsFound}
use Rattle.math_base.proofs.Numbers.{below_or_above}
use Rattle.math_base.proofs.Lists.{pushed_at, contains_none, contains_here}

-- ---- two numbers are two others, or not

pub same_or_other : (c d a b : ℕ) → ((c ≡ a) × (d ≡ b)) ⊎ ((c ≢ a) ⊎ (d ≢ b))
same_or_other c d a b = grind arith

pub pair_is : (p : Pair) (a b : ℕ) → p.a ≡ a → p.b ≡ b → p ≡ record { a = a; b = b }
pair_is p a b h k = ap₂ (λ (x y : ℕ). record { a = x; b = y }) h k

-- ---- one more at the end

-- ---- pairs

pub has_more : (rays : List PairRay) (r : PairRay) (a b : ℕ) → HasRayFor rays a b → HasRayFor (rays ++ r ∷ []) a b
has_more rays r a b h = (h.0, Contains-append_left rays (r ∷ []) h.0 h.1, h.2)

pub has_last : (rays : List PairRay) (r : PairRay) → HasRayFor (rays ++ r ∷ []) r.pair.a r.pair.b
has_last rays r = (r, Contains-push rays r, refl)

pub has_pushed : (rays : List PairRay) (r : PairRay) (a b : ℕ) → HasRayFor (rays ++ r ∷ []) a b → HasRayFor rays a b ⊎ (r.pair ≡ record { a = a; b = b })
has_pushed rays r a b h = elim (Contains-push_cases rays r h.0 h.1) [
  | inl k ↦ inl (h.0, k, h.2)
  | inr q ↦ inr (ap (λ (x : PairRay). x.pair) q ∙ h.2)
]

-- the bit of the new ray's pair is set
pub marked_more : (old new : TableParts) (rays : List PairRay) (r : PairRay) → AreRayPairsMarked old rays → r.pair.a < old.n → r.pair.b < old.n → SetsPair old new r.pair.a r.pair.b → KeepsOtherPairs old new r.pair.a r.pair.b → AreRayPairsMarked new (rays ++ r ∷ [])
marked_more old new rays r marked la lb sets keeps = record { bits = λ c d lc ld. at c d (subst (λ (n : ℕ). c < n) sets.sectors lc) (subst (λ (n : ℕ). d < n) sets.sectors ld) (same_or_other c d r.pair.a r.pair.b) }
  where
    at : (c d : ℕ) → c < old.n → d < old.n → ((c ≡ r.pair.a) × (d ≡ r.pair.b)) ⊎ ((c ≢ r.pair.a) ⊎ (d ≢ r.pair.b)) → Rejects new c d ↔ HasRayFor (rays ++ r ∷ []) c d
    at c d lc ld (inl same) = (
      (λ x. subst (λ (u : ℕ). HasRayFor (rays ++ r ∷ []) u d) (sym same.0) (subst (λ (u : ℕ). HasRayFor (rays ++ r ∷ []) r.pair.a u) (sym same.1) (has_last rays r))),
      (λ x. subst (λ (u : ℕ). Rejects new u d) (sym same.0) (subst (λ (u : ℕ). Rejects new r.pair.a u) (sym same.1) sets.set)),
    )
    at c d lc ld (inr other) = (
      (λ x. has_more rays r c d ((marked.bits c d lc ld).0 ((keeps c d lc ld other).0 x))),
      (λ x. elim (has_pushed rays r c d x) [
        | inl k ↦ (keeps c d lc ld other).1 ((marked.bits c d lc ld).1 k)
        | inr q ↦ absurd (elim other [ inl n ↦ n (sym (ap (λ (p : Pair). p.a) q)) | inr n ↦ n (sym (ap (λ (p : Pair). p.b) q)) ])
      ]),
    )

-- ---- what is gathered

pub noted : (all : List PairRay) (r : PairRay) (old new : PairRaysParts) → KeepsOneEach all old.rays → IsRayNoted r old new → KeepsOneEach (all ++ r ∷ []) new.rays
noted all r old new g is = elim is.rays [
  | inl same ↦ subst (λ (rays : List PairRay). KeepsOneEach (all ++ r ∷ []) rays) (sym same.1) (record {
    from = λ s c. Contains-append_left all (r ∷ []) s (g.from s c);
    pairs = λ s c. elim (Contains-push_cases all r s c) [ inl k ↦ g.pairs s k | inr q ↦ subst (λ (s : PairRay). HasRayFor old.rays s.pair.a s.pair.b) q same.0 ];
    once = g.once;
  })
  | inr more ↦ subst (λ (rays : List PairRay). KeepsOneEach (all ++ r ∷ []) rays) (sym more.1) (record {
    from = λ s c. elim (Contains-push_cases old.rays r s c) [ inl k ↦ Contains-append_left all (r ∷ []) s (g.from s k) | inr q ↦ subst (λ (s : PairRay). Contains (all ++ r ∷ []) s) q (Contains-push all r) ];
    pairs = λ s c. elim (Contains-push_cases all r s c) [ inl k ↦ has_more old.rays r s.pair.a s.pair.b (g.pairs s k) | inr q ↦ subst (λ (s : PairRay). HasRayFor (old.rays ++ r ∷ []) s.pair.a s.pair.b) q (has_last old.rays r) ];
    once = λ i j s t lt h k. apart more.0 i j s t lt (pushed_at old.rays r s i h) (pushed_at old.rays r t j k);
  })
]
  where
    apart : ¬ HasRayFor old.rays r.pair.a r.pair.b → (i j : ℕ) (s t : PairRay) → i < j → (slice_get old.rays i ≡ Some s) ⊎ ((i ≡ length old.rays) × (r ≡ s)) → (slice_get old.rays j ≡ Some t) ⊎ ((j ≡ length old.rays) × (r ≡ t)) → s.pair ≢ t.pair
    apart none i j s t lt (inl h) (inl k) = g.once i j s t lt h k
    apart none i j s t lt (inl h) (inr k) = λ q. none (s, contains_of_get old.rays s i h, q ∙ ap (λ (x : PairRay). x.pair) (sym k.1))
    apart none i j s t lt (inr h) (inl k) = let w = slice_get_within old.rays j t k in absurd (omega (arith, h.0, w, lt))
    apart none i j s t lt (inr h) (inr k) = absurd (omega (arith, h.0, k.0, lt))

-- one found sector more of a source
pub noted_more : (all : List PairRay) (f : Reached → PairRay) (xs : List Reached) (i : ℕ) (d : Reached) (old new : PairRaysParts) → i < length xs → KeepsOneEach (all ++ map f (take i xs)) old.rays → IsRayNoted (f (get_or xs i d)) old new → KeepsOneEach (all ++ map f (take (i + 1) xs)) new.rays
noted_more all f xs i d old new lt g is =
    let e : (all ++ map f (take i xs)) ++ f (get_or xs i d) ∷ [] ≡ all ++ map f (take (i + 1) xs) = append_assoc all (map f (take i xs)) (f (get_or xs i d) ∷ []) ∙ ap (λ (ys : List PairRay). all ++ ys) (sym (map_more f xs i d lt)) in
    subst (λ (ys : List PairRay). KeepsOneEach ys new.rays) e (noted (all ++ map f (take i xs)) (f (get_or xs i d)) old new g is)

-- ---- a ray runs from the smaller sector to the larger

by_test : (b : Bool) (source : ℕ) (x : Reached) → nat_lt source x.to ≡ b → toward source x ≡ (if b then record { pair = record { a = source; b = x.to }; ray = x.ray } else record { pair = record { a = x.to; b = source }; ray = turned_ray x.ray })
by_test b source x h = ap (λ (b : Bool). (if b then record { pair = record { a = source; b = x.to }; ray = x.ray } else record { pair = record { a = x.to; b = source }; ray = turned_ray x.ray })) h

pub toward_up : (source : ℕ) (x : Reached) → source < x.to → toward source x ≡ record { pair = record { a = source; b = x.to }; ray = x.ray }
toward_up source x lt = at (nat_lt source x.to) refl
  where
    at : (b : Bool) → nat_lt source x.to ≡ b → toward source x ≡ record { pair = record { a = source; b = x.to }; ray = x.ray }
    at true h = by_test true source x h
    at false h = let k = ltb-false source x.to h in absurd (omega arith)

pub toward_down : (source : ℕ) (x : Reached) → x.to < source → toward source x ≡ record { pair = record { a = x.to; b = source }; ray = turned_ray x.ray }
toward_down source x lt = at (nat_lt source x.to) refl
  where
    at : (b : Bool) → nat_lt source x.to ≡ b → toward source x ≡ record { pair = record { a = x.to; b = source }; ray = turned_ray x.ray }
    at true h = let k = ltb-true source x.to h in absurd (omega arith)
    at false h = by_test false source x h

-- ---- the rays of all sources

-- a ray of the list is that of some sector that some source found
pub from_source : (rs : List SourceResult) (r : PairRay) → Contains (all_rays rs) r → (k : ℕ) × (w : SourceResult) × (x : Reached) × (slice_get rs k ≡ Some w) × Contains w.found x × (toward w.source x ≡ r)
from_source [] r c = absurd (contains_none r c)
from_source (w ∷ rs) r c = elim (Contains-append_cases (map (toward w.source) w.found) (all_rays rs) r c) [
  | inl k ↦ let m = of_map (toward w.source) w.found r k in (zero, w, m.0, refl, m.1, m.2)
  | inr k ↦ let m = from_source rs r k in (suc m.0, m.1, m.2, m.3, m.4, m.5)
]
  where
    of_map : (f : Reached → PairRay) (xs : List Reached) (r : PairRay) → Contains (map f xs) r → (x : Reached) × Contains xs x × (f x ≡ r)
    of_map f [] r c = absurd (contains_none r c)
    of_map f (x ∷ xs) r c = elim (contains_cases (f x) r (map f xs) c) [
      | inl e ↦ (x, contains_here x xs, e)
      | inr k ↦ let m = of_map f xs r k in (m.0, contains_tail x m.0 xs m.1, m.2)
    ]

pub has_source : (rs : List SourceResult) (k : ℕ) (w : SourceResult) (x : Reached) → slice_get rs k ≡ Some w → Contains w.found x → Contains (all_rays rs) (toward w.source x)
has_source [] k w x h c = absurd cc
has_source (v ∷ rs) zero w x h c = let e = same_Some v w h in
    Contains-append_left (map (toward v.source) v.found) (all_rays rs) (toward w.source x) (subst (λ (u : SourceResult). Contains (map (toward u.source) u.found) (toward w.source x)) (sym e) (in_map (toward w.source) w.found x c))
  where
    in_map : (f : Reached → PairRay) (xs : List Reached) (x : Reached) → Contains xs x → Contains (map f xs) (f x)
    in_map f [] x c = absurd (contains_none x c)
    in_map f (y ∷ xs) x c = elim (contains_cases y x xs c) [
      | inl e ↦ subst (λ (z : Reached). Contains (map f (y ∷ xs)) (f z)) e (contains_here (f y) (map f xs))
      | inr k ↦ contains_tail (f y) (f x) (map f xs) (in_map f xs x k)
    ]
has_source (v ∷ rs) (suc k) w x h c = Contains-append_right (map (toward v.source) v.found) (all_rays rs) (toward w.source x) (has_source rs k w x h c)

-- what the ray of a find says
pub record IsFindRay (p : PlanParts) (rs : List SourceResult) (r : PairRay) : Type 0 where
  pub order : r.pair.a < r.pair.b
  pub within : r.pair.b < p.sectors
  pub ray : IsRayOfResults rs r

pub reached_by : (p : PlanParts) (rs : List SourceResult) → AreResults p rs → (k : ℕ) (w : SourceResult) (x : Reached) → slice_get rs k ≡ Some w → Contains w.found x → IsReachedFrom p k x
reached_by p rs are k w x h c = let get = get_of_contains w.found x c.0 c.1 c.2 in subst (λ (y : Reached). IsReachedFrom p k y) c.2 ((are.each k w h).found.each c.0 x c.1)

pub find_ray : (p : PlanParts) (rs : List SourceResult) → AreResults p rs → (k : ℕ) (w : SourceResult) (x : Reached) (r : PairRay) → slice_get rs k ≡ Some w → Contains w.found x → toward w.source x ≡ r → IsFindRay p rs r
find_ray p rs are k w x r h c e =
    let here = reached_by p rs are k w x h c in
    let from : w.source ≡ k = (are.each k w h).source_is in
    let in' : k < p.sectors = subst (λ (n : ℕ). k < n) are.count (slice_get_within rs k w h) in
    let by : toward k x ≡ r = ap (λ (s : ℕ). toward s x) (sym from) ∙ e in
    elim (below_or_above k x.to (λ q. here.other (sym q))) [
      | inl up ↦ subst (λ (s : PairRay). IsFindRay p rs s) (sym (toward_up k x up) ∙ by) (record { order = up; within = here.within; ray = inl (w, x, h, c, refl, refl) })
      | inr down ↦ subst (λ (s : PairRay). IsFindRay p rs s) (sym (toward_down k x down) ∙ by) (record { order = down; within = in'; ray = inr (x.ray, (w, x, h, c, refl, refl), refl) })
    ]

pub found_of_ray : (rs : List SourceResult) (r : PairRay) → IsRayOfResults rs r → AreFound rs r.pair.a r.pair.b
found_of_ray rs r (inl h) = inl (r.ray, h)
found_of_ray rs r (inr h) = inr (h.0, h.1)

pub turned_found : (rs : List SourceResult) (a b : ℕ) → AreFound rs a b → AreFound rs b a
turned_found rs a b (inl h) = inr h
turned_found rs a b (inr h) = inl h

module _ (p : PlanParts) (rs : List SourceResult) (are : AreResults p rs) (rays : List PairRay) (g : KeepsOneEach (all_rays rs) rays) where
  -- a find is gathered under its pair
  pub pair_of_find : (a b : ℕ) → a < b → AreFound rs a b → HasRayFor rays a b
  pair_of_find a b lt (inl (ray, (w, x, h, c, to, is))) =
      let from : w.source ≡ a = (are.each a w h).source_is in
      let at : toward w.source x ≡ record { pair = record { a = a; b = b }; ray = x.ray } = (ap (λ (s : ℕ). toward s x) from ∙ toward_up a x (subst (λ (n : ℕ). a < n) (sym to) lt)) ∙ ap (λ (n : ℕ). record { pair = record { a = a; b = n }; ray = x.ray }) to in
      subst (λ (s : PairRay). HasRayFor rays s.pair.a s.pair.b) at (g.pairs (toward w.source x) (has_source rs a w x h c))
  pair_of_find a b lt (inr (ray, (w, x, h, c, to, is))) =
      let from : w.source ≡ b = (are.each b w h).source_is in
      let at : toward w.source x ≡ record { pair = record { a = a; b = b }; ray = turned_ray x.ray } = (ap (λ (s : ℕ). toward s x) from ∙ toward_down b x (subst (λ (n : ℕ). n < b) (sym to) lt)) ∙ ap (λ (n : ℕ). record { pair = record { a = n; b = b }; ray = turned_ray x.ray }) to in
      subst (λ (s : PairRay). HasRayFor rays s.pair.a s.pair.b) at (g.pairs (toward w.source x) (has_source rs b w x h c))

  -- each ray is that of a find
  pub ray_of_find : (r : PairRay) → Contains rays r → IsFindRay p rs r
  ray_of_find r c = let f = from_source rs r (g.from r c) in find_ray p rs are f.0 f.1 f.2 r f.3 f.4 f.5

  pub find_of_pair : (a b : ℕ) → HasRayFor rays a b → AreFound rs a b
  find_of_pair a b (r, c, e) = subst (λ (q : Pair). AreFound rs q.a q.b) e (found_of_ray rs r (ray_of_find r c).ray)

pub knows : (p : PlanParts) (rs : List SourceResult) (f : PairRaysParts) → AreResults p rs → f.sectors ≡ p.sectors → KeepsOneEach (all_rays rs) f.rays → KnowsFound p.sectors rs f
knows p rs f are sized g = record { sized = sized; count = are.count; pairs = λ a b lt in'. ((λ h. find_of_pair p rs are f.rays g a b h), (λ h. pair_of_find p rs are f.rays g a b lt h)) }
