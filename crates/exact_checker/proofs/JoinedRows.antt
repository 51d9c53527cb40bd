-- The rows of what rays join, one ray after another.
use Rattle.std.proofs.Common.{◌≡◌, ◌≢◌, ℕ, zero, suc, ◌+◌, ◌*◌, ◌<◌, ◌≤◌, ◌⊎◌, ◌↔◌, inl, inr, List, [], ◌∷◌, ◌++◌, length, slice_set, Some, refl, sym, ◌∙◌, ap, subst, arith}
use Rattle.std.specs.List.{slice_get}
use Rattle.std.proofs.lemmas.List.{length-set}
use Rattle.std.proofs.lemmas.Option.{same_Some, slice_get_within}
use Rattle.sight_names.specs.declared.names.Pair.{Pair}
use Rattle.sight_names.specs.declared.names.PairRay.{PairRay}
use Rattle.math_base.proofs.Lists.{get_there, length_pushed, pushed_at}
use Rattle.math_base.proofs.Numbers.{same_or_not, below_or_last}
use Rattle.cert_format.specs.Parts.{CertParts}
use Rattle.cert_checker.specs.AcceptedGroups.Accepted.{AreGroupsJoined}
use Rattle.cert_checker.specs.Pairs.{pair, HasRayBelow, IsPairWithin}
use Rattle.cert_checker.proofs.Judging.{ray_there, ray_below}
use Rattle.gate_floods.proofs.RowBits.{joined_told, joined_tells}
use Rattle.gate_floods.specs.declared.gate_masks.masks.Row.{Row}
use Rattle.gate_floods.specs.GateMasks.Words.{HasBit, AreBitsOf}
use Rattle.gate_floods.specs.GateMasks.Masks.{IsInRowOf}
use Rattle.exact_checker.specs.Rows.{AreRowsOf, IsJoinedBit, AreJoinedRows, IsRowOfOne, AreOwnRows, AddsAt}

-- ---- rows with their own number

pub own_more : (n m : ℕ) (rows : List Row) (r : Row) → AreOwnRows n m rows → IsRowOfOne n m r → AreOwnRows n (m + 1) (rows ++ r ∷ [])
own_more n m rows r all own = record {
  len = let e = length_pushed rows r in let l = all.len in omega (arith, e, l);
  each = λ f s at. elim (pushed_at rows r s f at) as (λ _. IsRowOfOne n f s) [
    | inl h ↦ all.each f s h
    | inr (e, same) ↦ subst (λ (x : ℕ). IsRowOfOne n x s) (sym (e ∙ all.len)) (subst (IsRowOfOne n m) same own)
  ];
}

-- ---- one bit more

put_there : (rows : List Row) (f : ℕ) (put : Row) → f < length rows → slice_get (slice_set rows f put) f ≡ Some put
put_there [] f put l = absurd (omega (arith, l))
put_there (r ∷ rows) zero put l = refl
put_there (r ∷ rows) (suc f) put l = put_there rows f put (omega (arith, l))

not_put : (rows : List Row) (f x : ℕ) (put : Row) → x ≢ f → slice_get (slice_set rows f put) x ≡ slice_get rows x
not_put [] f x put n = refl
not_put (r ∷ rows) zero zero put n = absurd (n refl)
not_put (r ∷ rows) zero (suc x) put n = refl
not_put (r ∷ rows) (suc f) zero put n = refl
not_put (r ∷ rows) (suc f) (suc x) put n = not_put rows f x put (λ e. n (ap suc e))

module _ (n f k : ℕ) (P : ℕ → ℕ → Type 0) (old new : List Row) (all : AreRowsOf n P old) (adds : AddsAt f k old new) where
  within : f < length old
  within = slice_get_within old f adds.row adds.there

  here : (r : Row) → slice_get new f ≡ Some r → adds.put ≡ r
  here r h = same_Some adds.put r (sym (put_there old f adds.put within) ∙ ap (λ (rs : List Row). slice_get rs f) (sym adds.rows) ∙ h)

  there : (x : ℕ) (r : Row) → x ≢ f → slice_get new x ≡ Some r → slice_get old x ≡ Some r
  there x r differ h = sym (not_put old f x adds.put differ) ∙ ap (λ (rs : List Row). slice_get rs x) (sym adds.rows) ∙ h

  pub rows_more : AreRowsOf n (λ x c. P x c ⊎ ((x ≡ f) × (c ≡ k))) new
  rows_more = record {
    len = ap (λ (rs : List Row). length rs) adds.rows ∙ length-set old f adds.put ∙ all.len;
    room = λ x r h. elim (same_or_not x f) as (λ _. n ≤ 64 * length r.words.items) [
      | inl e ↦ let s : adds.put ≡ r = here r (ap (slice_get new) (sym e) ∙ h) in let l = all.room f adds.row adds.there in let m = adds.adds.len in subst (λ (y : Row). n ≤ 64 * length y.words.items) s (omega (arith, l, m))
      | inr differ ↦ all.room x r (there x r differ h)
    ];
    bits = λ x r h. elim (same_or_not x f) as (λ _. AreBitsOf r.words.items (λ c. P x c ⊎ ((x ≡ f) × (c ≡ k)))) [
      | inl e ↦ subst (λ (y : Row). AreBitsOf y.words.items (λ c. P x c ⊎ ((x ≡ f) × (c ≡ k)))) (here r (ap (slice_get new) (sym e) ∙ h)) (subst (λ (z : ℕ). AreBitsOf adds.put.words.items (λ c. P z c ⊎ ((z ≡ f) × (c ≡ k)))) (sym e) put_bits)
      | inr differ ↦ (λ c. ((λ b. inl ((all.bits x r (there x r differ h) c).0 b)), (λ w. (all.bits x r (there x r differ h) c).1 (kept x c differ w))))
    ];
  }
    where
      put_bits : AreBitsOf adds.put.words.items (λ c. P f c ⊎ ((f ≡ f) × (c ≡ k)))
      put_bits c = ((λ b. to ((adds.adds.bits c).0 b)), (λ w. (adds.adds.bits c).1 (back w)))
        where
          to : HasBit adds.row.words.items c ⊎ (c ≡ k) → P f c ⊎ ((f ≡ f) × (c ≡ k))
          to (inl h) = inl ((all.bits f adds.row adds.there c).0 h)
          to (inr e) = inr (refl, e)

          back : P f c ⊎ ((f ≡ f) × (c ≡ k)) → HasBit adds.row.words.items c ⊎ (c ≡ k)
          back (inl h) = inl ((all.bits f adds.row adds.there c).1 h)
          back (inr e) = inr e.1

      kept : (x c : ℕ) → x ≢ f → P x c ⊎ ((x ≡ f) × (c ≡ k)) → P x c
      kept x c differ (inl h) = h
      kept x c differ (inr w) = absurd (differ w.0)

pub rows_same : (n : ℕ) (P Q : ℕ → ℕ → Type 0) (rows : List Row) → ((f k : ℕ) → f < n → P f k ↔ Q f k) → AreRowsOf n P rows → AreRowsOf n Q rows
rows_same n P Q rows same all = record {
  len = all.len;
  room = all.room;
  bits = λ f r at c. let l = slice_get_within rows f r at in let e = all.len in let s = same f c (omega (arith, l, e)) in ((λ b. s.0 ((all.bits f r at c).0 b)), (λ q. (all.bits f r at c).1 (s.1 q)));
}

-- ---- one ray more

-- the first i rays join the two
abbrev pub JoinedBelow : ℕ → List PairRay → ℕ → ℕ → ℕ → Type 0
JoinedBelow i rays n f k = (k < n) × ((f ≡ k) ⊎ HasRayBelow i rays f k ⊎ HasRayBelow i rays k f)

pub none_joined : (n : ℕ) (rays : List PairRay) (rows : List Row) → AreOwnRows n n rows → AreRowsOf n (JoinedBelow 0 rays n) rows
none_joined n rays rows own = record {
  len = own.len;
  room = λ f r at. (own.each f r at).room;
  bits = λ f r at c. let l = slice_get_within rows f r at in let e = own.len in (
    (λ h. let same = ((own.each f r at).bits c).0 h in (omega (arith, l, e, same), inl (sym same))),
    (λ w. ((own.each f r at).bits c).1 (itself f c w.1)),
  );
}
  where
    itself : (f c : ℕ) → (f ≡ c) ⊎ HasRayBelow 0 rays f c ⊎ HasRayBelow 0 rays c f → c ≡ f
    itself f c (inl e) = sym e
    itself f c (inr (inl (i, r, lt, at, is))) = absurd (omega (arith, lt))
    itself f c (inr (inr (i, r, lt, at, is))) = absurd (omega (arith, lt))

module _ (n i : ℕ) (rays : List PairRay) (r : PairRay) (at : slice_get rays i ≡ Some r) (inside : IsPairWithin n r.pair) where
  pair_is : (f k : ℕ) → f ≡ r.pair.a → k ≡ r.pair.b → r.pair ≡ pair f k
  pair_is f k e h = λ j. record { a = sym e j; b = sym h j }

  more : (f k : ℕ) → HasRayBelow i rays f k → HasRayBelow (i + 1) rays f k
  more f k (j, s, lt, there, is) = (j, s, omega (arith, lt), there, is)

  last : (f k : ℕ) → f ≡ r.pair.a → k ≡ r.pair.b → HasRayBelow (i + 1) rays f k
  last f k e h = (i, r, omega arith, at, pair_is f k e h)

  fewer : (f k : ℕ) → HasRayBelow (i + 1) rays f k → HasRayBelow i rays f k ⊎ ((f ≡ r.pair.a) × (k ≡ r.pair.b))
  fewer f k (j, s, lt, there, is) = elim (below_or_last j i lt) as (λ _. HasRayBelow i rays f k ⊎ ((f ≡ r.pair.a) × (k ≡ r.pair.b))) [
    | inl less ↦ inl (j, s, less, there, is)
    | inr same ↦
        let one : s ≡ r = same_Some s r (sym there ∙ ap (slice_get rays) same ∙ at) in
        inr (sym (ap (λ (q : Pair). q.a) is) ∙ ap (λ (x : PairRay). x.pair.a) one, sym (ap (λ (q : Pair). q.b) is) ∙ ap (λ (x : PairRay). x.pair.b) one)
  ]

  abbrev Grown : ℕ → ℕ → Type 0
  Grown f k = (JoinedBelow i rays n f k ⊎ ((f ≡ r.pair.a) × (k ≡ r.pair.b))) ⊎ ((f ≡ r.pair.b) × (k ≡ r.pair.a))

  grown : (f k : ℕ) → Grown f k → JoinedBelow (i + 1) rays n f k
  grown f k (inl (inl (lt, inl e))) = (lt, inl e)
  grown f k (inl (inl (lt, inr (inl h)))) = (lt, inr (inl (more f k h)))
  grown f k (inl (inl (lt, inr (inr h)))) = (lt, inr (inr (more k f h)))
  grown f k (inl (inr (e, h))) = let w = inside.1 in (omega (arith, w, h), inr (inl (last f k e h)))
  grown f k (inr (e, h)) = let w = inside.0 in let v = inside.1 in (omega (arith, w, v, h), inr (inr (last k f h e)))

  shrunk : (f k : ℕ) → JoinedBelow (i + 1) rays n f k → Grown f k
  shrunk f k (lt, inl e) = inl (inl (lt, inl e))
  shrunk f k (lt, inr (inl h)) = elim (fewer f k h) as (λ _. Grown f k) [ inl less ↦ inl (inl (lt, inr (inl less))) | inr one ↦ inl (inr one) ]
  shrunk f k (lt, inr (inr h)) = elim (fewer k f h) as (λ _. Grown f k) [ inl less ↦ inl (inl (lt, inr (inr less))) | inr one ↦ inr (one.1, one.0) ]

  pub ray_more : (old middle new : List Row) → AreRowsOf n (JoinedBelow i rays n) old → AddsAt r.pair.a r.pair.b old middle → AddsAt r.pair.b r.pair.a middle new → AreRowsOf n (JoinedBelow (i + 1) rays n) new
  ray_more old middle new all first second =
      rows_same n Grown (JoinedBelow (i + 1) rays n) new (λ f k lt. (grown f k, shrunk f k))
      (rows_more n r.pair.b r.pair.a (λ f k. JoinedBelow i rays n f k ⊎ ((f ≡ r.pair.a) × (k ≡ r.pair.b))) middle new (rows_more n r.pair.a r.pair.b (JoinedBelow i rays n) old middle all first) second)

-- ---- all rays

-- a certificate with these rays
abbrev pub cert_of : List PairRay → CertParts
cert_of rays = record { sizes = record { sectors = 0; points = 0; lines = 0 }; triangles = []; rays = rays; listed = []; trees = [] }

pub all_joined : (n i : ℕ) (rays : List PairRay) (rows : List Row) → length rays ≡ i → AreRowsOf n (JoinedBelow i rays n) rows → AreJoinedRows n rays rows
all_joined n i rays rows e all = rows_same n (JoinedBelow i rays n) (IsJoinedBit rays n) rows (λ f k lt. ((λ h. (h.0, joined_tells (cert_of rays) f k (to f k h.1))), (λ h. (h.0, back f k (joined_told (cert_of rays) f k h.1))))) all
  where
    there : (f k : ℕ) → HasRayBelow i rays f k → HasRayBelow (length rays) rays f k
    there f k h = subst (λ (j : ℕ). HasRayBelow j rays f k) (sym e) h

    below : (f k : ℕ) → HasRayBelow (length rays) rays f k → HasRayBelow i rays f k
    below f k h = subst (λ (j : ℕ). HasRayBelow j rays f k) e h

    to : (f k : ℕ) → (f ≡ k) ⊎ HasRayBelow i rays f k ⊎ HasRayBelow i rays k f → AreGroupsJoined (cert_of rays) f k
    to f k (inl h) = inl h
    to f k (inr (inl h)) = inr (inl (ray_there rays f k (there f k h)))
    to f k (inr (inr h)) = inr (inr (ray_there rays k f (there k f h)))

    back : (f k : ℕ) → AreGroupsJoined (cert_of rays) f k → (f ≡ k) ⊎ HasRayBelow i rays f k ⊎ HasRayBelow i rays k f
    back f k (inl h) = inl h
    back f k (inr (inl h)) = inr (inl (below f k (ray_below rays f k h)))
    back f k (inr (inr h)) = inr (inr (below k f (ray_below rays k f h)))

-- ---- what the rows tell

pub in_joined : (n : ℕ) (c : CertParts) (rows : List Row) → AreJoinedRows n c.rays rows → (f k : ℕ) → f < n → k < n → IsInRowOf rows f k ↔ AreGroupsJoined c f k
in_joined n c rows all f k low low_too = (
  (λ h. joined_told c f k ((all.bits f h.0 h.1 k).0 h.2).1),
  (λ j. (row.0, row.1, (all.bits f row.0 row.1 k).1 (low_too, joined_tells c f k j))),
)
  where
    row : (r : Row) × (slice_get rows f ≡ Some r)
    row = get_there rows f (let e = all.len in omega (arith, low, e))
