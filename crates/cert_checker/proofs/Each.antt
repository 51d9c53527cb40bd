-- What holds of the members of a list as far as a loop has come.
use Rattle.std.proofs.Common.{◌≡◌, ℕ, ◌+◌, ◌<◌, ◌≤◌, ◌↔◌, inl, inr, List, length, Some, Contains, IsTrue, Bool, true, false, refl, sym, ◌∙◌, ap, subst, arith}
use Rattle.std.specs.List.{slice_get}
use Rattle.std.proofs.lemmas.Bool.{cases_lt, false≢true}
use Rattle.std.proofs.lemmas.Option.{same_Some}
use Rattle.sight_names.proofs.Lists.{get_of_contains, contains_of_get}

-- P holds of the first n members
abbrev pub EachBelow : {X : Type 0} → (X → Type 0) → List X → ℕ → Type 0
EachBelow {X} P xs n = (j : ℕ) (x : X) → j < n → slice_get xs j ≡ Some x → P x

-- P holds at the first n places
abbrev pub AtEachBelow : (ℕ → Type 0) → ℕ → Type 0
AtEachBelow P n = (j : ℕ) → j < n → P j

pub each_more : {X : Type 0} (P : X → Type 0) (xs : List X) (n : ℕ) (x : X) → slice_get xs n ≡ Some x → EachBelow P xs n → P x → EachBelow P xs (n + 1)
each_more {X} P xs n x is all here j y l e = elim (cases_lt j n) as (λ _. P y) [ inl h ↦ all j y h e | inr h ↦ subst P (same_Some x y (sym is ∙ ap (slice_get xs) (same h) ∙ e)) here ]
  where
    same : n ≤ j → n ≡ j
    same h = omega arith

pub each_all : {X : Type 0} (P : X → Type 0) (xs : List X) (n : ℕ) → length xs ≤ n → EachBelow P xs n → (x : X) → Contains xs x → P x
each_all P xs n l all x c = all c.0 x (let h = c.1 in omega (arith, l, h)) (get_of_contains xs x c.0 c.1 c.2)

pub at_place : {X : Type 0} (xs : List X) (n : ℕ) (x : X) → slice_get xs n ≡ Some x → Contains xs x
at_place xs n x e = contains_of_get xs x n e

-- ---- what a test tells

pub no_true : (P : Type 0) → ¬ P → IsTrue false ↔ P
no_true P none = (λ t. absurd (false≢true t), λ h. absurd (none h))

pub yes_true : (P : Type 0) → P → IsTrue true ↔ P
yes_true P h = (λ t. h, λ p. refl)

pub refuses : (r : Bool) (P : Type 0) → (IsTrue r ↔ P) → r ≡ false → ¬ P
refuses r P e f p = let t : r ≡ true = e.1 p in false≢true (sym f ∙ t)
