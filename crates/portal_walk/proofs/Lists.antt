-- Elements of lists by their places.
use Rattle.std.proofs.Common.{◌≡◌, ℕ, zero, suc, ◌-◌, ◌<◌, ◌⊎◌, inl, inr, List, [], ◌∷◌, ◌++◌, length, take, slice_get, slice_set, Option, Some, None, IsSome, refl, sym, ap, ◌∙◌, subst, arith}
use Rattle.std.proofs.lemmas.Bool.{false≢true}
use Rattle.std.proofs.lemmas.List.{length_push, length-set, length-take-le, set_at, take-append-le, take_all}
use Rattle.math_base.proofs.Lists.{get_pushed}
use Rattle.std.proofs.lemmas.Option.{none-some, same_Some, slice_get_within}

-- the element stays where it is when one more comes
pub get_front : {X : Type 0} (xs : List X) (y : X) (k : ℕ) (x : X) → slice_get xs k ≡ Some x → slice_get (xs ++ y ∷ []) k ≡ Some x
get_front [] y k x e = absurd (none-some x e)
get_front (z ∷ xs) y zero x e = e
get_front (z ∷ xs) y (suc k) x e = get_front xs y k x e

-- what stands in a list with one more is the new one at the end, or was there
pub get_more : {X : Type 0} (xs : List X) (y : X) (k : ℕ) (x : X) → slice_get (xs ++ y ∷ []) k ≡ Some x → ((k ≡ length xs) × (x ≡ y)) ⊎ (slice_get xs k ≡ Some x)
get_more [] y zero x e = inl (refl, sym (same_Some y x e))
get_more [] y (suc k) x e = absurd (none-some x e)
get_more (z ∷ xs) y zero x e = inr e
get_more (z ∷ xs) y (suc k) x e = elim (get_more xs y k x e) [
  | inl h ↦ inl (ap suc h.0, h.1)
  | inr h ↦ inr h
]

-- what stands in a list where one was written is that one, or was there
pub get_set : {X : Type 0} (xs : List X) (i : ℕ) (y : X) (k : ℕ) (x : X) → slice_get (slice_set xs i y) k ≡ Some x → ((k ≡ i) × (x ≡ y)) ⊎ (slice_get xs k ≡ Some x)
get_set [] i y k x e = absurd (none-some x e)
get_set (z ∷ xs) zero y zero x e = inl (refl, sym (same_Some y x e))
get_set (z ∷ xs) zero y (suc k) x e = inr e
get_set (z ∷ xs) (suc i) y zero x e = inr e
get_set (z ∷ xs) (suc i) y (suc k) x e = elim (get_set xs i y k x e) [
  | inl h ↦ inl (ap suc h.0, h.1)
  | inr h ↦ inr h
]

pub get_set_same : {X : Type 0} (xs : List X) (i : ℕ) (y : X) → i < length xs → slice_get (slice_set xs i y) i ≡ Some y
get_set_same [] i y l = absurd (omega arith)
get_set_same (z ∷ xs) zero y l = refl
get_set_same (z ∷ xs) (suc i) y l = get_set_same xs i y (omega arith)

pub last_down : {X : Type 0} (y z : X) (xs : List X) (o : Option X) → slice_get (y ∷ z ∷ xs) (length (y ∷ z ∷ xs) - 1) ≡ o → slice_get (z ∷ xs) (length (z ∷ xs) - 1) ≡ o
last_down {X} y z xs o e =
    let one : suc (suc (length xs)) - 1 ≡ suc (length xs) = omega arith in
    let two : length xs ≡ suc (length xs) - 1 = omega arith in
    subst (λ (i : ℕ). slice_get (z ∷ xs) i ≡ o) two (subst (λ (i : ℕ). slice_get (y ∷ z ∷ xs) i ≡ o) one e)

-- all but the last, and the last
pub front_back : {X : Type 0} (xs : List X) (x : X) → slice_get xs (length xs - 1) ≡ Some x → take (length xs - 1) xs ++ x ∷ [] ≡ xs
front_back [] x e = absurd (none-some x e)
front_back (y ∷ []) x e = ap (λ z. z ∷ []) (sym (same_Some y x e))
front_back {X} (y ∷ z ∷ xs) x e =
    let one : suc (suc (length xs)) - 1 ≡ suc (length xs) = omega arith in
    let two : suc (length xs) - 1 ≡ length xs = omega arith in
    ap (λ (i : ℕ). take i (y ∷ z ∷ xs) ++ x ∷ []) one ∙ ap (λ (zs : List X). y ∷ zs) (ap (λ (i : ℕ). take i (z ∷ xs) ++ x ∷ []) (sym two) ∙ front_back (z ∷ xs) x (last_down y z xs (Some x) e))

-- the last one written
pub set_back : {X : Type 0} (xs : List X) (x y : X) → slice_get xs (length xs - 1) ≡ Some x → slice_set xs (length xs - 1) y ≡ take (length xs - 1) xs ++ y ∷ []
set_back {X} xs x y e = ap (λ (zs : List X). slice_set zs (length xs - 1) y) (sym (front_back xs x e)) ∙ set_at (take (length xs - 1) xs) x [] y (length xs - 1) (length-take-le (length xs - 1) xs (omega arith))

pub last_pushed : {X : Type 0} (xs : List X) (x : X) → slice_get (xs ++ x ∷ []) (length (xs ++ x ∷ []) - 1) ≡ Some x
last_pushed {X} xs x = ap (λ (n : ℕ). slice_get (xs ++ x ∷ []) n) (let l = length_push xs x in omega (arith, l)) ∙ get_pushed xs x

-- the first ones, of which there are no more
pub take_front : {X : Type 0} (xs ys : List X) (n : ℕ) → n ≡ length xs → take n (xs ++ ys) ≡ xs
take_front xs ys n e = take-append-le n xs ys (omega (arith, e)) ∙ take_all n xs (omega (arith, e))

pub last_set : {X : Type 0} (xs : List X) (x y : X) → slice_get xs (length xs - 1) ≡ Some x → slice_get (slice_set xs (length xs - 1) y) (length (slice_set xs (length xs - 1) y) - 1) ≡ Some y
last_set xs x y e = ap (λ (n : ℕ). slice_get (slice_set xs (length xs - 1) y) (n - 1)) (length-set xs (length xs - 1) y) ∙ get_set_same xs (length xs - 1) y (slice_get_within xs (length xs - 1) x e)

pub some_of : {X : Type 0} (o : Option X) → IsSome o → (x : X) × (o ≡ Some x)
some_of None h = absurd (false≢true h)
some_of (Some x) h = (x, refl)
