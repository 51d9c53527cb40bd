-- One more sector, and the groups of each.
use Rattle.std.proofs.Common.{◌≡◌, ℕ, zero, suc, ◌+◌, ◌<◌, ◌⊎◌, ◌↔◌, inl, inr, List, [], ◌∷◌, ◌++◌, Some, Bool, true, false, IsTrue, length, get_or, Contains, refl, sym, ◌∙◌, ap, subst, arith, length-append}
use Rattle.std.specs.List.{slice_get}
use Rattle.std.proofs.lemmas.Bool.{false≢true}
use Rattle.std.proofs.lemmas.Option.{none-some, same_Some, slice_get-get_or, slice_get_within}
use Rattle.math_base.proofs.Lists.{contains_here, contains_none}
use Rattle.sight_names.specs.Map.{Map}
use Rattle.sight_names.proofs.Lists.{contains_cases}
use Rattle.cert_checker.specs.AcceptedGroups.Accepted.{IsAlone}
use Rattle.cert_checker.specs.Members.{added, AreMembersBelow, AreMembersBy, IsMember}
use Rattle.cert_checker.specs.Named.{MarksNamed}
use Rattle.cert_checker.specs.TreeJudge.Marks.{IsFlagSet}

at_end : (xss : List (List ℕ)) (xs ys : List ℕ) (a : ℕ) → slice_get (xss ++ xs ∷ []) a ≡ Some ys → (slice_get xss a ≡ Some ys) ⊎ ((a ≡ length xss) × (xs ≡ ys))
at_end [] xs ys zero e = inr (refl, same_Some xs ys e)
at_end [] xs ys (suc a) e = absurd (none-some ys e)
at_end (zs ∷ xss) xs ys zero e = inl e
at_end (zs ∷ xss) xs ys (suc a) e = elim (at_end xss xs ys a e) as (λ _. (slice_get (zs ∷ xss) (suc a) ≡ Some ys) ⊎ ((suc a ≡ suc (length xss)) × (xs ≡ ys))) [ inl h ↦ inl h | inr h ↦ inr (ap suc h.0, h.1) ]

pub members_more : (In : ℕ → ℕ → Type 0) (n : ℕ) (lists : List (List ℕ)) (fs : List ℕ) → AreMembersBy In n lists → ((f : ℕ) → Contains fs f ↔ In n f) → AreMembersBy In (n + 1) (lists ++ fs ∷ [])
members_more In n lists fs all here = record {
  len = let e = length-append lists (fs ∷ []) in let l = all.len in omega (arith, e, l);
  each = λ a xs at. elim (at_end lists fs xs a at) as (λ _. (f : ℕ) → Contains xs f ↔ In a f) [
    | inl h ↦ all.each a xs h
    | inr h ↦ subst (λ (ys : List ℕ). (f : ℕ) → Contains ys f ↔ In a f) h.1 (subst (λ (x : ℕ). (f : ℕ) → Contains fs f ↔ In x f) (sym (h.0 ∙ all.len)) here)
  ];
}

-- the lists have a group of the sector exactly where it contains the sector
pub member_is : (In : ℕ → ℕ → Type 0) (n : ℕ) (lists : List (List ℕ)) → AreMembersBy In n lists → (a f : ℕ) → a < n → IsMember lists a f ↔ In a f
member_is In n lists all a f l = (
  (λ h. (all.each a h.0 h.1 f).0 h.2),
  (λ h. let there = slice_get-get_or lists a [] (let e = all.len in omega (arith, e, l)) in (get_or lists a [], there, (all.each a (get_or lists a []) there f).1 h)),
)

-- ---- sectors that are groups alone

alone_has : (named : Bool) (a f : ℕ) → Contains (added named a []) f ↔ ((a ≡ f) × IsTrue named)
alone_has true a f = (
  (λ c. elim (contains_cases a f [] c) as (λ _. (a ≡ f) × IsTrue true) [ inl e ↦ (e, refl) | inr none ↦ absurd (contains_none f none) ]),
  (λ h. subst (λ (x : ℕ). Contains (a ∷ []) x) h.0 (contains_here a [])),
)
alone_has false a f = ((λ c. absurd (contains_none f c)), (λ h. absurd (false≢true h.1)))

-- the list of one more sector, by the flags of those that sides name
pub alone_more : (m : Map) (n a : ℕ) (marks : List Bool) (named : Bool) (lists new : List (List ℕ)) (own : List ℕ) → n ≡ m.sectors → a < n → MarksNamed m marks → (IsTrue named ↔ IsFlagSet marks a) → own ≡ added named a [] → new ≡ lists ++ own ∷ []
    → AreMembersBy (IsAlone m) a lists → AreMembersBy (IsAlone m) (a + 1) new
alone_more m n a marks named lists new own size lt marked told e pushed all = subst (AreMembersBy (IsAlone m) (a + 1)) (sym pushed) (members_more (IsAlone m) a lists own all (λ f. (
  (λ c. let h = (alone_has named a f).0 (subst (λ (xs : List ℕ). Contains xs f) e c) in (h.0, (marked.flags a low).0 (told.0 h.1))),
  (λ h. subst (λ (xs : List ℕ). Contains xs f) (sym e) ((alone_has named a f).1 (h.0, told.1 ((marked.flags a low).1 h.1)))),
)))
  where
    low : a < m.sectors
    low = omega (arith, size, lt)

-- they are below the number of sectors
pub alone_below : (m : Map) (n : ℕ) (lists : List (List ℕ)) → AreMembersBy (IsAlone m) n lists → AreMembersBelow n n lists
alone_below m n lists all = record {
  len = all.len;
  below = λ a f fs at has. let w = (all.each a fs at f).0 has in let l = slice_get_within lists a fs at in let e = all.len in let s = w.0 in omega (arith, l, e, s);
}
