-- How many items lists have whose numbers rise.
use Rattle.std.proofs.Common.{◌≡◌, ◌≢◌, ℕ, zero, suc, ◌+◌, ◌<◌, ◌≤◌, ◌⊎◌, inl, inr, List, [], ◌∷◌, length, Some, refl, sym, ap, ◌∙◌, arith}
use Rattle.std.specs.List.{slice_get}
use Rattle.std.proofs.lemmas.Option.{none-some, same_Some}
use Rattle.sight_names.specs.Order.{Ascends}

module _ {X : Type 0} (key : X → ℕ) where
  abbrev pub Rise : List X → Type 0
  Rise xs = Ascends (λ (x y : X). key x < key y) xs

  -- an item has the number
  abbrev pub HasKey : List X → ℕ → Type 0
  HasKey xs v = (i : ℕ) × (x : X) × (slice_get xs i ≡ Some x) × (key x ≡ v)

  behind : (x : X) (xs : List X) → Rise (x ∷ xs) → Rise xs
  behind x xs up i j y z lt at_y at_z = up (suc i) (suc j) y z (omega (arith, lt)) at_y at_z

  above : (x : X) (xs : List X) → Rise (x ∷ xs) → (v : ℕ) → HasKey xs v → key x < v
  above x xs up v (i, y, at, e) = let l = up zero (suc i) x y (omega arith) refl at in omega (arith, l, e)

  -- no more than there are numbers
  pub few : (xs : List X) (k m : ℕ) → k ≤ m → Rise xs → ((i : ℕ) (x : X) → slice_get xs i ≡ Some x → (k ≤ key x) × (key x < m)) → k + length xs ≤ m
  few [] k m le up within = omega (arith, le)
  few (x ∷ xs) k m le up within =
      let here = within zero x refl in
      let l = here.0 in
      let r = here.1 in
      let more = few xs (suc (key x)) m (omega (arith, r)) (behind x xs up) (λ i y at. ((let lt = up zero (suc i) x y (omega arith) refl at in omega (arith, lt)), (within (suc i) y at).1)) in
      omega (arith, l, more)

  -- where the first of those numbers is
  first_of : (x y : X) (xs ys : List X) → Rise (x ∷ xs) → ((v : ℕ) → HasKey (x ∷ xs) v → HasKey (y ∷ ys) v) → (key y ≡ key x) ⊎ (HasKey ys (key x))
  first_of x y xs ys up all = go (all (key x) (zero, x, refl, refl))
    where
      go : HasKey (y ∷ ys) (key x) → (key y ≡ key x) ⊎ HasKey ys (key x)
      go (zero, z, at, e) = inl (ap key (same_Some y z at) ∙ e)
      go (suc i, z, at, e) = inr (i, z, at, e)

  -- each number of the first list that isn't the first of the second is behind it
  later : (y : X) (ys : List X) (v : ℕ) → HasKey (y ∷ ys) v → key y ≢ v → HasKey ys v
  later y ys v (zero, z, at, e) differ = absurd (differ (ap key (same_Some y z at) ∙ e))
  later y ys v (suc i, z, at, e) differ = (i, z, at, e)

  put_before : (x : X) (xs : List X) (v : ℕ) → HasKey xs v → HasKey (x ∷ xs) v
  put_before x xs v (i, z, at, e) = (suc i, z, at, e)

  -- the rest of both
  rests : (x y : X) (xs ys : List X) → Rise (x ∷ xs) → key y ≡ key x → ((v : ℕ) → HasKey (x ∷ xs) v → HasKey (y ∷ ys) v) → (v : ℕ) → HasKey xs v → HasKey ys v
  rests x y xs ys up same all v h = later y ys v (all v (put_before x xs v h)) (λ e. let l = above x xs up v h in omega (arith, l, e, same))

  -- all of the first in the rest of the second
  in_rest : (x y : X) (xs ys : List X) → Rise (x ∷ xs) → Rise (y ∷ ys) → HasKey ys (key x) → ((v : ℕ) → HasKey (x ∷ xs) v → HasKey (y ∷ ys) v) → (v : ℕ) → HasKey (x ∷ xs) v → HasKey ys v
  in_rest x y xs ys up up_too there all v h = later y ys v (all v h) (λ e. let l = above y ys up_too (key x) there in let r = at_least v h in omega (arith, l, r, e))
    where
      at_least : (v : ℕ) → HasKey (x ∷ xs) v → key x ≤ v
      at_least v (zero, z, at, e) = let s = ap key (same_Some x z at) ∙ e in omega (arith, s)
      at_least v (suc i, z, at, e) = let l = above x xs up v (i, z, at, e) in omega (arith, l)

  -- those whose numbers are all there
  pub fewer : (xs ys : List X) → Rise xs → Rise ys → ((v : ℕ) → HasKey xs v → HasKey ys v) → length xs ≤ length ys
  fewer [] ys up up_too all = omega arith
  fewer (x ∷ xs) [] up up_too all = absurd (let w = all (key x) (zero, x, refl, refl) in none-some w.1 w.2)
  fewer (x ∷ xs) (y ∷ ys) up up_too all = elim (first_of x y xs ys up all) as (λ _. suc (length xs) ≤ suc (length ys)) [
    | inl same ↦ let l = fewer xs ys (behind x xs up) (behind y ys up_too) (rests x y xs ys up same all) in omega (arith, l)
    | inr there ↦ let l = fewer (x ∷ xs) ys up (behind y ys up_too) (in_rest x y xs ys up up_too there all) in omega (arith, l)
  ]

  -- and one number more
  pub less : (xs ys : List X) → Rise xs → Rise ys → ((v : ℕ) → HasKey xs v → HasKey ys v) → (w : ℕ) → HasKey ys w → ¬ HasKey xs w → length xs < length ys
  less xs [] up up_too all w (i, z, at, e) none = absurd (none-some z at)
  less [] (y ∷ ys) up up_too all w has none = omega arith
  less (x ∷ xs) (y ∷ ys) up up_too all w has none = elim (first_of x y xs ys up all) as (λ _. suc (length xs) < suc (length ys)) [
    | inl same ↦
        let l = less xs ys (behind x xs up) (behind y ys up_too) (rests x y xs ys up same all) w (later y ys w has (λ e. none (zero, x, refl, sym same ∙ e))) (λ h. none (put_before x xs w h)) in
        omega (arith, l)
    | inr there ↦ let l = fewer (x ∷ xs) ys up (behind y ys up_too) (in_rest x y xs ys up up_too there all) in omega (arith, l)
  ]
