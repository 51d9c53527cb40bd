-- The order of groups as lists, and the test of it.
use Rattle.std.proofs.Common.{◌≡◌, ℕ, ◌-◌, ◌<◌, ◌⊎◌, inl, inr, List, [], ◌∷◌, ◌++◌, length, slice_get, Option, Some, None, true, refl, sym, ap, ◌∙◌, arith, Ordering}
use Rattle.std.specs.Ordering.{nat_cmp, ordering_then, is_lt}
use Rattle.std.specs.Cmp.Lexicographic.{slice_cmp}
use Rattle.std.proofs.lemmas.Bool.{true≢false}
use Rattle.std.proofs.lemmas.Bool.Decides.{nat_tests}
use Rattle.std.proofs.lemmas.List.{length-append}
use Rattle.math_base.proofs.Lists.{get_pushed}
use Rattle.sight_names.specs.Groups.{ListBefore}
use Rattle.cert_format.specs.CertGroups.Reading.{group_after, last_of}

abbrev pub GroupAfter : Option (List ℕ) → List ℕ → Type 0
GroupAfter None g = Unit {0}
GroupAfter (Some o) g = ListBefore o g

first_decides : (x y : ℕ) (o : Ordering) → is_lt (ordering_then (nat_cmp x y) o) ≡ true → (x < y) ⊎ ((x ≡ y) × (is_lt o ≡ true))
first_decides x y o h = grind arith

less_first : (x y : ℕ) (o : Ordering) → x < y → is_lt (ordering_then (nat_cmp x y) o) ≡ true
less_first x y o h = grind (arith, nat_tests)

same_first : (x y : ℕ) (o : Ordering) → x ≡ y → is_lt o ≡ true → is_lt (ordering_then (nat_cmp x y) o) ≡ true
same_first x y o h g = grind (arith, nat_tests)

before_is : (xs ys : List ℕ) → is_lt (slice_cmp nat_cmp xs ys) ≡ true → ListBefore xs ys
before_is [] [] h = absurd (true≢false (sym h))
before_is [] (y ∷ ys) h = tt
before_is (x ∷ xs) [] h = absurd (true≢false (sym h))
before_is (x ∷ xs) (y ∷ ys) h = elim (first_decides x y (slice_cmp nat_cmp xs ys) h) [ inl lt ↦ inl lt | inr b ↦ inr (b.0, before_is xs ys b.1) ]

before_test : (xs ys : List ℕ) → ListBefore xs ys → is_lt (slice_cmp nat_cmp xs ys) ≡ true
before_test [] [] h = absurd h
before_test [] (y ∷ ys) h = refl
before_test (x ∷ xs) [] h = absurd h
before_test (x ∷ xs) (y ∷ ys) (inl lt) = less_first x y (slice_cmp nat_cmp xs ys) lt
before_test (x ∷ xs) (y ∷ ys) (inr (e, h)) = same_first x y (slice_cmp nat_cmp xs ys) e (before_test xs ys h)

pub group_after_is : (k : Option (List ℕ)) (g : List ℕ) → group_after k g ≡ true → GroupAfter k g
group_after_is None g h = tt
group_after_is (Some o) g h = before_is o g h

pub group_after_test : (k : Option (List ℕ)) (g : List ℕ) → GroupAfter k g → group_after k g ≡ true
group_after_test None g h = refl
group_after_test (Some o) g h = before_test o g h

pub before_carries : (a b c : List ℕ) → ListBefore a b → ListBefore b c → ListBefore a c
before_carries [] [] c h g = absurd h
before_carries [] (y ∷ ys) [] h g = absurd g
before_carries [] (y ∷ ys) (z ∷ zs) h g = tt
before_carries (x ∷ xs) [] c h g = absurd h
before_carries (x ∷ xs) (y ∷ ys) [] h g = absurd g
before_carries (x ∷ xs) (y ∷ ys) (z ∷ zs) (inl h) (inl g) = inl (omega (arith, h, g))
before_carries (x ∷ xs) (y ∷ ys) (z ∷ zs) (inl h) (inr (e, g)) = inl (omega (arith, h, e))
before_carries (x ∷ xs) (y ∷ ys) (z ∷ zs) (inr (e, h)) (inl g) = inl (omega (arith, e, g))
before_carries (x ∷ xs) (y ∷ ys) (z ∷ zs) (inr (e, h)) (inr (f, g)) = inr (e ∙ f, before_carries xs ys zs h g)

-- the last of groups is the one that was put behind the others
pub last_pushed : (gs : List (List ℕ)) (g : List ℕ) → last_of (gs ++ g ∷ []) ≡ Some g
last_pushed gs g =
    let long : length (gs ++ g ∷ []) - 1 ≡ length gs = omega (arith, length-append gs (g ∷ [])) in
    ap (slice_get (gs ++ g ∷ [])) long ∙ get_pushed gs g
