-- One more group, and what is known of those that contain a sector, and of those that are joined with others.
use Rattle.std.proofs.Common.{◌≡◌, ℕ, ◌+◌, ◌<◌, ◌≤◌, ◌⊎◌, ◌↔◌, inl, inr, List, Bool, IsTrue, Some, slice_get, length, Contains, sym, ap, ◌∙◌, subst, arith}
use Rattle.std.proofs.lemmas.Option.{same_Some, slice_get_within}
use Rattle.math_base.proofs.Numbers.{below_or_last}
use Rattle.sight_names.specs.Groups.{IsInGroup}
use Rattle.pair_answer.specs.Numbers.{added, IsAmongFirst}
use Rattle.pair_answer.specs.Places.{AreJoinedByComponent, AreJoinedBelow, ArePlacesBelow, ArePlacesOf, IsJoined}
use Rattle.pair_answer.proofs.Numbers.{added_is, among_contains, among_last, among_more, among_next, contains_among}

pub places_more : (groups : List (List ℕ)) (a n : ℕ) (at old new : List ℕ) (has : Bool) → slice_get groups n ≡ Some at → ArePlacesBelow n groups a old → (IsTrue has ↔ Contains at a) → new ≡ added has n old → ArePlacesBelow (n + 1) groups a new
places_more groups a n at old new has there all is e f = (λ c. to ((added_is has n old new e f).0 c), λ h. (added_is has n old new e f).1 (back h))
  where
    to : Contains old f ⊎ (IsTrue has × (n ≡ f)) → (f < n + 1) × IsInGroup groups a f
    to (inl c) = let h = (all f).0 c in let l = h.0 in (omega (arith, l), h.1)
    to (inr (t, q)) = (omega (arith, q), (at, subst (λ (x : ℕ). slice_get groups x ≡ Some at) q there, is.0 t))

    back : (f < n + 1) × IsInGroup groups a f → Contains old f ⊎ (IsTrue has × (n ≡ f))
    back h = elim (below_or_last f n h.0) as (λ _. Contains old f ⊎ (IsTrue has × (n ≡ f))) [
      | inl l ↦ inl ((all f).1 (l, h.1))
      | inr q ↦ inr (is.1 (subst (λ (xs : List ℕ). Contains xs a) (same_Some h.1.0 at (sym h.1.1 ∙ ap (slice_get groups) q ∙ there)) h.1.2), sym q)
    ]

pub places_all : (groups : List (List ℕ)) (a n : ℕ) (fs : List ℕ) → length groups ≤ n → ArePlacesBelow n groups a fs → ArePlacesOf groups a fs
places_all groups a n fs l all f = (λ c. ((all f).0 c).1, λ h. (all f).1 (let k = slice_get_within groups f h.0 h.1 in omega (arith, l, k), h))

module _ (components groups others : List ℕ) where
  pub joined_more : (n x : ℕ) (old new : List ℕ) (b : Bool) → slice_get groups n ≡ Some x → AreJoinedBelow n components groups others old → (IsTrue b ↔ IsJoined components others x) → new ≡ added b x old → AreJoinedBelow (n + 1) components groups others new
  joined_more n x old new b there all is e f = (λ c. to ((added_is b x old new e f).0 c), λ h. (added_is b x old new e f).1 (back h))
    where
      to : Contains old f ⊎ (IsTrue b × (x ≡ f)) → IsAmongFirst (n + 1) groups f × IsJoined components others f
      to (inl c) = let h = (all f).0 c in (among_more n groups f h.0, h.1)
      to (inr (t, q)) = (subst (λ (y : ℕ). IsAmongFirst (n + 1) groups y) q (among_last n groups x there), subst (λ (y : ℕ). IsJoined components others y) q (is.0 t))

      back : IsAmongFirst (n + 1) groups f × IsJoined components others f → Contains old f ⊎ (IsTrue b × (x ≡ f))
      back h = elim (among_next n groups f h.0) as (λ _. Contains old f ⊎ (IsTrue b × (x ≡ f))) [
        | inl m ↦ inl ((all f).1 (m, h.1))
        | inr q ↦ let s : x ≡ f = same_Some x f (sym there ∙ q) in inr (is.1 (subst (λ (y : ℕ). IsJoined components others y) (sym s) h.1), s)
      ]

  pub joined_all : (n : ℕ) (kept : List ℕ) → length groups ≤ n → AreJoinedBelow n components groups others kept → AreJoinedByComponent components groups others kept
  joined_all n kept le all f = (λ c. let h = (all f).0 c in (among_contains n groups f h.0, h.1), λ h. (all f).1 (contains_among n groups f le h.0, h.1))
