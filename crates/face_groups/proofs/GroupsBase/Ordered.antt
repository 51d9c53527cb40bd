-- Lists that ascend strictly are told by their members alone; the order of lists; a group has one place.
use Rattle.std.proofs.Common.{sym, ◌≡◌, ℕ, ◌<◌, ◌⊎◌, inl, inr, ◌↔◌, List, [], ◌∷◌, slice_get, Some, Contains, refl, ap, ◌∙◌, subst, arith}
use Rattle.std.proofs.lemmas.Option.{none-some}
use Rattle.math_base.proofs.Numbers.{below_above_or_same}
use Rattle.sight_names.specs.Map.{Map}
use Rattle.sight_names.proofs.Lists.{same_ascending, get_of_contains, contains_of_get}
use Rattle.sight_names.specs.Groups.{AscendStrictly, ListBefore, AreGroups}

abbrev pub Has : {X : Type 0} → List X → X → Type 0
Has xs x = (i : ℕ) × (slice_get xs i ≡ Some x)

pub contains_at : {X : Type 0} (xs : List X) (x : X) → Contains xs x → Has xs x
contains_at xs x c = (c.0, get_of_contains xs x c.0 c.1 c.2)

pub at_contains : {X : Type 0} (xs : List X) (x : X) → Has xs x → Contains xs x
at_contains xs x h = contains_of_get xs x h.0 h.1

less_not_itself : (x : ℕ) → x < x → ⊥
less_not_itself x h = omega (arith, h)

less_asym : (x y : ℕ) → x < y → y < x → ⊥
less_asym x y h k = omega (arith, h, k)

-- two ascending lists of numbers with the same members
pub ascending_same : (xs ys : List ℕ) → AscendStrictly xs → AscendStrictly ys → ((a : ℕ) → Contains xs a ↔ Contains ys a) → xs ≡ ys
ascending_same xs ys up down h = same_ascending (λ (x y : ℕ). x < y) less_not_itself less_asym xs ys up down (λ a. (h a).0) (λ a. (h a).1)

pub before_asym : (f g : List ℕ) → ListBefore f g → ListBefore g f → ⊥
before_asym [] [] h k = h
before_asym [] (y ∷ ys) h k = k
before_asym (x ∷ xs) [] h k = h
before_asym (x ∷ xs) (y ∷ ys) (inl lt) (inl gt) = omega (arith, lt, gt)
before_asym (x ∷ xs) (y ∷ ys) (inl lt) (inr k) = let e = k.0 in omega (arith, lt, e)
before_asym (x ∷ xs) (y ∷ ys) (inr h) (inl gt) = let e = h.0 in omega (arith, gt, e)
before_asym (x ∷ xs) (y ∷ ys) (inr h) (inr k) = before_asym xs ys h.1 k.1

-- a map has one list of groups
pub same_groups : (m : Map) (gs hs : List (List ℕ)) → AreGroups m gs → AreGroups m hs → gs ≡ hs
same_groups m gs hs a b = same_ascending ListBefore (λ f h. before_asym f f h h) before_asym gs hs a.ascend b.ascend (λ g c. (b.exactly g).1 ((a.exactly g).0 c)) (λ g c. (a.exactly g).1 ((b.exactly g).0 c))

-- a list that isn't empty has a member
pub some_member : (xs : List ℕ) → ¬ (xs ≡ []) → (a : ℕ) × Contains xs a
some_member [] none = absurd (none refl)
some_member (a ∷ xs) none = (a, at_contains (a ∷ xs) a (0, refl))

pub empty_has_none : (xs : List ℕ) (a : ℕ) → xs ≡ [] → Contains xs a → ⊥
empty_has_none xs a e c = none-some a ((contains_at [] a (subst (λ (ys : List ℕ). Contains ys a) e c)).1)

-- of two lists it can be told which comes first
pub before_trans : (f g h : List ℕ) → ListBefore f g → ListBefore g h → ListBefore f h
before_trans [] [] h a b = absurd a
before_trans [] (y ∷ ys) [] a b = absurd b
before_trans [] (y ∷ ys) (z ∷ zs) a b = tt
before_trans (x ∷ xs) [] h a b = absurd a
before_trans (x ∷ xs) (y ∷ ys) [] a b = absurd b
before_trans (x ∷ xs) (y ∷ ys) (z ∷ zs) (inl lt) (inl gt) = inl (omega (arith, lt, gt))
before_trans (x ∷ xs) (y ∷ ys) (z ∷ zs) (inl lt) (inr k) = inl (let e = k.0 in omega (arith, lt, e))
before_trans (x ∷ xs) (y ∷ ys) (z ∷ zs) (inr h) (inl gt) = inl (let e = h.0 in omega (arith, gt, e))
before_trans (x ∷ xs) (y ∷ ys) (z ∷ zs) (inr h) (inr k) = inr (h.0 ∙ k.0, before_trans xs ys zs h.1 k.1)

pub before_cases : (f g : List ℕ) → ListBefore f g ⊎ (ListBefore g f ⊎ (f ≡ g))
before_cases [] [] = inr (inr refl)
before_cases [] (y ∷ ys) = inl tt
before_cases (x ∷ xs) [] = inr (inl tt)
before_cases (x ∷ xs) (y ∷ ys) = elim (below_above_or_same x y) as (λ _. ListBefore (x ∷ xs) (y ∷ ys) ⊎ (ListBefore (y ∷ ys) (x ∷ xs) ⊎ (x ∷ xs ≡ y ∷ ys))) [
  | inl lt ↦ inl (inl lt)
  | inr (inl gt) ↦ inr (inl (inl gt))
  | inr (inr e) ↦ elim (before_cases xs ys) as (λ _. ListBefore (x ∷ xs) (y ∷ ys) ⊎ (ListBefore (y ∷ ys) (x ∷ xs) ⊎ (x ∷ xs ≡ y ∷ ys))) [
    | inl h ↦ inl (inr (e, h))
    | inr (inl h) ↦ inr (inl (inr (sym e, h)))
    | inr (inr h) ↦ inr (inr (ap (λ (z : ℕ). z ∷ xs) e ∙ ap (λ (zs : List ℕ). y ∷ zs) h))
  ]
]

-- a group has one place, where groups ascend
pub one_place_of : (groups : List (List ℕ)) → ((i j : ℕ) (f g : List ℕ) → i < j → slice_get groups i ≡ Some f → slice_get groups j ≡ Some g → ListBefore f g) → (i j : ℕ) (g : List ℕ) → slice_get groups i ≡ Some g → slice_get groups j ≡ Some g → i ≡ j
one_place_of groups up i j g ei ej = elim (below_above_or_same i j) as (λ _. i ≡ j) [
  | inl lt ↦ (let h = up i j g g lt ei ej in absurd (before_asym g g h h))
  | inr (inl gt) ↦ (let h = up j i g g gt ej ei in absurd (before_asym g g h h))
  | inr (inr e) ↦ e
]

pub one_place : (m : Map) (groups : List (List ℕ)) → AreGroups m groups → (i j : ℕ) (g : List ℕ) → slice_get groups i ≡ Some g → slice_get groups j ≡ Some g → i ≡ j
one_place m groups are = one_place_of groups are.ascend
