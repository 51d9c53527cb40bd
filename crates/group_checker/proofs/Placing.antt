-- Places of groups put into the lists of sectors.
use Rattle.std.proofs.Common.{◌≡◌, ◌≢◌, ℕ, ◌+◌, ◌<◌, ◌≤◌, ◌⊎◌, ◌↔◌, inl, inr, List, [], ◌∷◌, ◌++◌, Some, length, get_or, take, drop, map, Contains, refl, sym, ◌∙◌, ap, subst, arith, length-set, Vec, Global}
use Rattle.std.specs.List.{slice_get, slice_set}
use Rattle.std.proofs.lemmas.Bool.{cases_lt}
use Rattle.std.proofs.lemmas.List.{get_or-set_same, get_or-set_other, get_or-map, map-set, length-map, take_all, take_at, take_more}
use Rattle.std.proofs.lemmas.Option.{same_Some, slice_get_within, get_or_from_slice_get}
use Rattle.math_base.proofs.Numbers.{same_or_not}
use Rattle.math_base.proofs.Lists.{contains_append, contains_here, contains_left, contains_none, contains_one, contains_right}
use Rattle.sight_names.specs.Groups.{IsInGroup}
use Rattle.group_checker.specs.Members.{AreGroupsWithBelow, AreMembers, AreMembersSoFar, PutsGroup, PutsOne}
use Rattle.group_checker.proofs.Growing.{places_all}

abbrev pub items_of : List (Vec ℕ Global) → List (List ℕ)
items_of vs = map (λ v. v.items) vs

-- ---- one place

-- what a longer list has
longer : (fs : List ℕ) (p f : ℕ) → Contains (fs ++ p ∷ []) f ↔ (Contains fs f ⊎ (f ≡ p))
longer fs p f = (
  λ c. elim (contains_append f fs (p ∷ []) c) as (λ _. Contains fs f ⊎ (f ≡ p)) [ inl h ↦ inl h | inr h ↦ inr (sym (contains_one f p h)) ],
  λ h. elim h as (λ _. Contains (fs ++ p ∷ []) f) [ inl k ↦ contains_left f fs (p ∷ []) k | inr e ↦ contains_right f fs (p ∷ []) (subst (Contains (p ∷ [])) (sym e) (contains_here p [])) ],
)

-- one list is longer by the place, all others are as they were
longer_one : (ls new : List (List ℕ)) (s p : ℕ) → length new ≡ length ls → get_or new s [] ≡ get_or ls s [] ++ p ∷ [] → ((a : ℕ) → a ≢ s → get_or new a [] ≡ get_or ls a []) → PutsOne s p ls new
longer_one ls new s p len at_s others = record {
  len = len;
  each = λ a f l. each a f (same_or_not a s);
}
  where
    same_s : (f : ℕ) → Contains (get_or new s []) f ↔ (Contains (get_or ls s []) f ⊎ ((f ≡ p) × (s ≡ s)))
    same_s f = (
      λ c. elim ((longer (get_or ls s []) p f).0 (subst (λ (xs : List ℕ). Contains xs f) at_s c)) as (λ _. Contains (get_or ls s []) f ⊎ ((f ≡ p) × (s ≡ s))) [ inl h ↦ inl h | inr k ↦ inr (k, refl) ],
      λ h. subst (λ (xs : List ℕ). Contains xs f) (sym at_s) ((longer (get_or ls s []) p f).1 (elim h as (λ _. Contains (get_or ls s []) f ⊎ (f ≡ p)) [ inl k ↦ inl k | inr k ↦ inr k.0 ])),
    )

    other : (a f : ℕ) → a ≢ s → Contains (get_or ls a []) f ↔ (Contains (get_or ls a []) f ⊎ ((f ≡ p) × (a ≡ s)))
    other a f ne = (λ c. inl c, λ h. elim h as (λ _. Contains (get_or ls a []) f) [ inl k ↦ k | inr k ↦ absurd (ne k.1) ])

    each : (a f : ℕ) → (a ≡ s) ⊎ (a ≢ s) → Contains (get_or new a []) f ↔ (Contains (get_or ls a []) f ⊎ ((f ≡ p) × (a ≡ s)))
    each a f h = elim h as (λ _. Contains (get_or new a []) f ↔ (Contains (get_or ls a []) f ⊎ ((f ≡ p) × (a ≡ s)))) [
      | inl e ↦ subst (λ (x : ℕ). Contains (get_or new x []) f ↔ (Contains (get_or ls x []) f ⊎ ((f ≡ p) × (x ≡ s)))) (sym e) (same_s f)
      | inr ne ↦ subst (λ (xs : List ℕ). Contains xs f ↔ (Contains (get_or ls a []) f ⊎ ((f ≡ p) × (a ≡ s)))) (sym (others a ne)) (other a f ne)
    ]

puts_there : (ls : List (List ℕ)) (s p : ℕ) → s < length ls → PutsOne s p ls (slice_set ls s (get_or ls s [] ++ p ∷ []))
puts_there ls s p lt = longer_one ls (slice_set ls s (get_or ls s [] ++ p ∷ [])) s p (length-set ls s (get_or ls s [] ++ p ∷ [])) (get_or-set_same ls s (get_or ls s [] ++ p ∷ []) [] lt) (λ a ne. get_or-set_other ls s a (get_or ls s [] ++ p ∷ []) [] ne)

-- a list is longer by one place
pub puts_one : (vs : List (Vec ℕ Global)) (s p : ℕ) (v w : Vec ℕ Global) → s < length vs → w.items ≡ (get_or vs s v).items ++ p ∷ [] → PutsOne s p (items_of vs) (items_of (slice_set vs s w))
puts_one vs s p v w lt e = subst (PutsOne s p (items_of vs)) (sym same) (puts_there (items_of vs) s p within)
  where
    within : s < length (items_of vs)
    within = let n = length-map vs (λ (u : Vec ℕ Global). u.items) in omega arith

    same : items_of (slice_set vs s w) ≡ slice_set (items_of vs) s (get_or (items_of vs) s [] ++ p ∷ [])
    same = map-set (λ (u : Vec ℕ Global). u.items) vs s w
        ∙ ap (slice_set (items_of vs) s) (e ∙ ap (λ (fs : List ℕ). fs ++ p ∷ []) (sym (get_or-map (λ (u : Vec ℕ Global). u.items) vs s v [] lt)))

-- ---- a group

pub puts_none : (p : ℕ) (ls : List (List ℕ)) → PutsGroup [] p ls ls
puts_none p ls = record {
  len = refl;
  each = λ a f l. (λ c. inl c, λ h. elim h as (λ _. Contains (get_or ls a []) f) [ inl k ↦ k | inr k ↦ absurd (contains_none a k.1) ]);
}

pub puts_more : (xs : List ℕ) (s p : ℕ) (old mid new : List (List ℕ)) → PutsGroup xs p old mid → PutsOne s p mid new → PutsGroup (xs ++ s ∷ []) p old new
puts_more xs s p old mid new group one = record {
  len = one.len ∙ group.len;
  each = λ a f l. (to a f l, back a f l);
}
  where
    within : (a : ℕ) → a < length old → a < length mid
    within a l = let e = group.len in omega arith

    to : (a f : ℕ) → a < length old → Contains (get_or new a []) f → Contains (get_or old a []) f ⊎ ((f ≡ p) × Contains (xs ++ s ∷ []) a)
    to a f l c = elim ((one.each a f (within a l)).0 c) as (λ _. Contains (get_or old a []) f ⊎ ((f ≡ p) × Contains (xs ++ s ∷ []) a)) [
      | inl h ↦ elim ((group.each a f l).0 h) as (λ _. Contains (get_or old a []) f ⊎ ((f ≡ p) × Contains (xs ++ s ∷ []) a)) [
        | inl k ↦ inl k
        | inr k ↦ inr (k.0, contains_left a xs (s ∷ []) k.1)
      ]
      | inr h ↦ inr (h.0, (longer xs s a).1 (inr h.1))
    ]

    back : (a f : ℕ) → a < length old → Contains (get_or old a []) f ⊎ ((f ≡ p) × Contains (xs ++ s ∷ []) a) → Contains (get_or new a []) f
    back a f l h = elim h as (λ _. Contains (get_or new a []) f) [
      | inl k ↦ (one.each a f (within a l)).1 (inl ((group.each a f l).1 (inl k)))
      | inr k ↦ elim ((longer xs s a).0 k.1) as (λ _. Contains (get_or new a []) f) [
        | inl m ↦ (one.each a f (within a l)).1 (inl ((group.each a f l).1 (inr (k.0, m))))
        | inr e ↦ (one.each a f (within a l)).1 (inr (k.0, e))
      ]
    ]

pub puts_next : (xs : List ℕ) (i s p : ℕ) (old mid new : List (List ℕ)) → i < length xs → s ≡ get_or xs i 0 → PutsGroup (take i xs) p old mid → PutsOne s p mid new → PutsGroup (take (i + 1) xs) p old new
puts_next xs i s p old mid new lt e group one = subst (λ (ss : List ℕ). PutsGroup ss p old new) (ap (λ (x : ℕ). take i xs ++ x ∷ []) e ∙ sym (take_more xs i 0 lt)) (puts_more (take i xs) s p old mid new group one)

pub puts_all : (xs : List ℕ) (n p : ℕ) (old new : List (List ℕ)) → length xs ≤ n → PutsGroup (take n xs) p old new → PutsGroup xs p old new
puts_all xs n p old new le group = subst (λ (ss : List ℕ). PutsGroup ss p old new) (take_all n xs le) group

-- what was written over the whole of a vector
pub written : (vs ws : List (Vec ℕ Global)) (n : ℕ) → length (items_of ws) ≡ length (items_of vs) → n ≡ length vs → take n (ws ++ drop (length ws) vs) ≡ ws
written vs ws n e f = take_at ws (drop (length ws) vs) n (sym (length-map ws (λ (v : Vec ℕ Global). v.items)) ∙ e ∙ length-map vs (λ (v : Vec ℕ Global). v.items) ∙ sym f)

-- ---- all groups

pub members_none : (groups : List (List ℕ)) (vs : List (Vec ℕ Global)) (n : ℕ) → length vs ≡ n → ((a : ℕ) → get_or (items_of vs) a [] ≡ []) → AreMembersSoFar 0 groups n (items_of vs)
members_none groups vs n len empty = record {
  len = length-map vs (λ (v : Vec ℕ Global). v.items) ∙ len;
  each = λ a l f. (λ c. absurd (contains_none f (subst (λ (xs : List ℕ). Contains xs f) (empty a) c)), λ h. let k = h.0 in absurd (omega (arith, k)));
}

pub members_next : (groups : List (List ℕ)) (n k : ℕ) (at : List ℕ) (old new : List (List ℕ)) → slice_get groups n ≡ Some at → AreMembersSoFar n groups k old → PutsGroup at n old new → AreMembersSoFar (n + 1) groups k new
members_next groups n k at old new is all puts = record {
  len = puts.len ∙ all.len;
  each = λ a l f. (to a l f, λ h. back a l f h.0 h.1);
}
  where
    within : (a : ℕ) → a < k → a < length old
    within a l = let e = all.len in omega arith

    to : (a : ℕ) → a < k → (f : ℕ) → Contains (get_or new a []) f → (f < n + 1) × IsInGroup groups a f
    to a l f c = elim ((puts.each a f (within a l)).0 c) as (λ _. (f < n + 1) × IsInGroup groups a f) [
      | inl h ↦ let m = (all.each a l f).0 h in let b = m.0 in (omega (arith, b), m.1)
      | inr h ↦ let e = h.0 in (omega (arith, e), (at, subst (λ (x : ℕ). slice_get groups x ≡ Some at) (sym h.0) is, h.1))
    ]

    same : (f : ℕ) → n ≤ f → f < n + 1 → f ≡ n
    same f m h = omega arith

    back : (a : ℕ) → a < k → (f : ℕ) → f < n + 1 → IsInGroup groups a f → Contains (get_or new a []) f
    back a l f b h = elim (cases_lt f n) as (λ _. Contains (get_or new a []) f) [
      | inl m ↦ (puts.each a f (within a l)).1 (inl ((all.each a l f).1 (m, h)))
      | inr m ↦ let e = same f m b in (puts.each a f (within a l)).1 (inr (e, subst (λ (xs : List ℕ). Contains xs a) (same_Some h.0 at (sym h.1 ∙ ap (slice_get groups) e ∙ is)) h.2))
    ]

pub members_all : (groups : List (List ℕ)) (n k : ℕ) (ls : List (List ℕ)) → length groups ≤ n → AreMembersSoFar n groups k ls → AreMembers groups k ls
members_all groups n k ls le all = record {
  len = all.len;
  each = λ a fs is. places_all groups a n fs le (subst (AreGroupsWithBelow n groups a) (get_or_from_slice_get ls a fs [] is) (all.each a (below a fs is)));
}
  where
    below : (a : ℕ) (fs : List ℕ) → slice_get ls a ≡ Some fs → a < k
    below a fs is = let l = slice_get_within ls a fs is in let e = all.len in omega arith
