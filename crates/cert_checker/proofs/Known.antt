-- One more ray, and what the lists of two sectors tell.
use Rattle.std.proofs.Common.{◌≡◌, ◌≢◌, ℕ, ◌+◌, ◌<◌, ◌≤◌, ◌⊎◌, ◌↔◌, inl, inr, List, Some, Bool, IsTrue, sym, ◌∙◌, ap, subst, arith}
use Rattle.std.specs.List.{slice_get}
use Rattle.std.proofs.lemmas.Bool.{cases_lt}
use Rattle.std.proofs.lemmas.Option.{same_Some}
use Rattle.sight_names.specs.declared.names.Pair.{Pair}
use Rattle.sight_names.specs.declared.names.PairRay.{PairRay}
use Rattle.math_base.proofs.Numbers.{below_same_or_above}
use Rattle.reject_bits.specs.Parts.{TableParts, Rejects, SetsPair, KeepsOtherPairs}
use Rattle.cert_checker.specs.Pairs.{pair, IsPairWithin, KnownParts, HasRayBelow, MarksRays, AreAllApart, AreSectorsJoined, AreSomeJoined, IsShownBlind}

-- ---- rays

pub rays_more : (count n : ℕ) (rays : List PairRay) (r : PairRay) (old new : TableParts) → slice_get rays n ≡ Some r → IsPairWithin count r.pair → MarksRays count n rays old → SetsPair old new r.pair.a r.pair.b → KeepsOtherPairs old new r.pair.a r.pair.b → MarksRays count (n + 1) rays new
rays_more count n rays r old new at within all sets keeps = record { sectors = sets.sectors ∙ all.sectors; bits = bits }
  where
    low : (f : ℕ) → f < count → f < old.n
    low f l = let e = all.sectors in omega (arith, l, e)

    more : (f k : ℕ) → HasRayBelow n rays f k → HasRayBelow (n + 1) rays f k
    more f k h = let l = h.2 in (h.0, h.1, omega (arith, l), h.3, h.4)

    differs : (f k : ℕ) → (f ≢ r.pair.a) ⊎ (k ≢ r.pair.b) → HasRayBelow (n + 1) rays f k → HasRayBelow n rays f k
    differs f k other (i, s, l, there, is) = elim (cases_lt i n) as (λ _. HasRayBelow n rays f k) [
      | inl h ↦ (i, s, h, there, is)
      | inr h ↦ absurd (clash other (same_Some s r (sym there ∙ ap (slice_get rays) (last h l) ∙ at)))
    ]
      where
        last : n ≤ i → i < n + 1 → i ≡ n
        last h l = omega arith

        clash : (f ≢ r.pair.a) ⊎ (k ≢ r.pair.b) → s ≡ r → ⊥
        clash (inl d) e = d (sym (ap (λ (q : Pair). q.a) is) ∙ ap (λ (x : PairRay). x.pair.a) e)
        clash (inr d) e = d (sym (ap (λ (q : Pair). q.b) is) ∙ ap (λ (x : PairRay). x.pair.b) e)

    pair_is : (p : Pair) (f k : ℕ) → f ≡ p.a → k ≡ p.b → p ≡ pair f k
    pair_is p f k e h = λ i. record { a = sym e i; b = sym h i }

    kept : (f k : ℕ) → f < count → k < count → (f ≢ r.pair.a) ⊎ (k ≢ r.pair.b) → Rejects new f k ↔ HasRayBelow (n + 1) rays f k
    kept f k l h other = (λ s. more f k ((all.bits f k l h).0 ((keeps f k (low f l) (low k h) other).0 s)), λ s. (keeps f k (low f l) (low k h) other).1 ((all.bits f k l h).1 (differs f k other s)))

    itself : (f k : ℕ) → f ≡ r.pair.a → k ≡ r.pair.b → Rejects new f k ↔ HasRayBelow (n + 1) rays f k
    itself f k e h = (λ s. (n, r, omega arith, at, pair_is r.pair f k e h), λ s. subst (λ (x : ℕ). Rejects new x k) (sym e) (subst (λ (x : ℕ). Rejects new r.pair.a x) (sym h) sets.set))

    same_or : (x y : ℕ) → (x ≡ y) ⊎ (x ≢ y)
    same_or x y = elim (below_same_or_above x y) as (λ _. (x ≡ y) ⊎ (x ≢ y)) [
      | inl l ↦ inr (λ e. omega (arith, l, e))
      | inr (inl e) ↦ inl e
      | inr (inr l) ↦ inr (λ e. omega (arith, l, e))
    ]

    bits : (f k : ℕ) → f < count → k < count → Rejects new f k ↔ HasRayBelow (n + 1) rays f k
    bits f k l h = elim (same_or f r.pair.a) as (λ _. Rejects new f k ↔ HasRayBelow (n + 1) rays f k) [
      | inl e ↦ elim (same_or k r.pair.b) as (λ _. Rejects new f k ↔ HasRayBelow (n + 1) rays f k) [ inl d ↦ itself f k e d | inr d ↦ kept f k l h (inr d) ]
      | inr d ↦ kept f k l h (inl d)
    ]

-- ---- pairs

pub blind_told : (k : KnownParts) (a b : ℕ) (fs gs : List ℕ) (r : Bool) → slice_get k.members a ≡ Some fs → slice_get k.members b ≡ Some gs → (IsTrue r ↔ AreAllApart k.facts fs gs) → IsTrue r ↔ IsShownBlind k a b
blind_told k a b fs gs r ones others is = (
  λ t. record { apart = λ xs ys e f. subst (λ (zs : List ℕ). AreAllApart k.facts zs ys) (same_Some fs xs (sym ones ∙ e)) (subst (λ (zs : List ℕ). AreAllApart k.facts fs zs) (same_Some gs ys (sym others ∙ f)) (is.0 t)) },
  λ h. is.1 (h.apart fs gs ones others),
)

pub joined_told : (joins : ℕ → ℕ → Type 0) (members : List (List ℕ)) (a b : ℕ) (fs gs : List ℕ) (r : Bool) → slice_get members a ≡ Some fs → slice_get members b ≡ Some gs → (IsTrue r ↔ AreSomeJoined joins fs gs) → IsTrue r ↔ AreSectorsJoined joins members a b
joined_told joins members a b fs gs r ones others is = (
  λ t. record { fs = fs; gs = gs; ones = ones; others = others; joined = is.0 t },
  λ h. is.1 (subst (λ (zs : List ℕ). AreSomeJoined joins zs gs) (same_Some h.fs fs (sym h.ones ∙ ones)) (subst (λ (zs : List ℕ). AreSomeJoined joins h.fs zs) (same_Some h.gs gs (sym h.others ∙ others)) h.joined)),
)
