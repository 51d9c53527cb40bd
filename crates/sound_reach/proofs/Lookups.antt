-- Lists that grow at their end, and lists with two entries for each sector.
use Rattle.std.proofs.Common.{◌≡◌, ℕ, zero, suc, ◌*◌, ◌<◌, ◌⊎◌, inl, inr, List, [], ◌∷◌, length, slice_get, slice_index_or, Option, Some, None, Bool, true, false, refl, sym, ap, ◌∙◌, subst, arith, set, get_or-set_other, get_or-set_same, replicate, get_or, Contains}
use Rattle.std.proofs.lemmas.Option.{slice_get-get_or, get_or_from_slice_get}
use Rattle.sight_names.proofs.Lists.{contains_of_get}
use Rattle.sound_reach.specs.declared.doors.Door.{Door}
use Rattle.sound_reach.specs.declared.state.State.{State}
use Rattle.sound_reach.specs.State.{state_place}
use Rattle.sound_reach.specs.Routes.{distance_at}
use Rattle.math_base.proofs.Numbers.{same_or_not}

pub none_some : {X : Type 0} (o : Option X) (x : X) → o ≡ None → o ≡ Some x → ⊥
none_some o x e f = cc

-- two states with one place are one state
places : (a b : ℕ) (s t : Bool) → state_place (record { sector = a; spare = s }) ≡ state_place (record { sector = b; spare = t }) → (a ≡ b) × (s ≡ t)
places a b true true e = (omega (arith, e), refl)
places a b false false e = (omega (arith, e), refl)
places a b true false e = absurd (omega (arith, e))
places a b false true e = absurd (omega (arith, e))

pub same_state : (x y : State) → state_place x ≡ state_place y → x ≡ y
same_state x y e = let p = places x.sector y.sector x.spare y.spare e in λ i. record { sector = p.0 i; spare = p.1 i }

pub distance_set : (ds : List (Option ℕ)) (x y : State) (k : ℕ) → state_place x < length ds → ((y ≡ x) × (distance_at (set ds (state_place x) (Some k)) y ≡ Some k)) ⊎ (distance_at (set ds (state_place x) (Some k)) y ≡ distance_at ds y)
distance_set ds x y k h = elim (same_or_not (state_place y) (state_place x)) as (λ _. ((y ≡ x) × (distance_at (set ds (state_place x) (Some k)) y ≡ Some k)) ⊎ (distance_at (set ds (state_place x) (Some k)) y ≡ distance_at ds y)) [
  | inl e ↦ inl (same_state y x e, subst (λ (n : ℕ). slice_index_or (set ds (state_place x) (Some k)) n None ≡ Some k) (sym e) (get_or-set_same ds (state_place x) (Some k) None h))
  | inr n ↦ inr (get_or-set_other ds (state_place x) (state_place y) (Some k) None n)
]

pub place_below : (x : State) (n : ℕ) → state_place x < n * 2 → x.sector < n
place_below x n h = at x.spare h
  where
    at : (s : Bool) → state_place (record { sector = x.sector; spare = s }) < n * 2 → x.sector < n
    at true h = omega (arith, h)
    at false h = omega (arith, h)

pub below_place : (x : State) (n : ℕ) → x.sector < n → state_place x < n * 2
below_place x n h = at x.spare
  where
    at : (s : Bool) → state_place (record { sector = x.sector; spare = s }) < n * 2
    at true = omega (arith, h)
    at false = omega (arith, h)

pub place_in : (ds : List (Option ℕ)) (x : State) (k : ℕ) → distance_at ds x ≡ Some k → state_place x < length ds
place_in ds x k e = within ds (state_place x) k e
  where
    within : (ds : List (Option ℕ)) (i k : ℕ) → slice_index_or ds i None ≡ Some k → i < length ds
    within [] i k e = absurd (none_some None k refl e)
    within (d ∷ ds) zero k e = omega arith
    within (d ∷ ds) (suc i) k e = let r = within ds i k e in omega (arith, r)

pub slice_of_replicate : (n i : ℕ) → slice_index_or (replicate n (let none : Option ℕ = None in none)) i None ≡ None
slice_of_replicate zero i = refl
slice_of_replicate (suc n) zero = refl
slice_of_replicate (suc n) (suc i) = slice_of_replicate n i

-- what a place past the end reads as
abbrev pub any_door : Door
any_door = record { from = 0; side = record { line = 0; left = false }; to = 0; damped = false }

pub contains_at : {X : Type 0} (xs : List X) (i : ℕ) (d : X) → i < length xs → Contains xs (get_or xs i d)
contains_at xs i d lt = contains_of_get xs (get_or xs i d) i (slice_get-get_or xs i d lt)

-- what is read at a place within a list, whatever would be read past its end
pub read_at : {X : Type 0} (xs : List X) (i : ℕ) (r d : X) → i < length xs → r ≡ get_or xs i r → get_or xs i d ≡ r
read_at xs i r d lt e = get_or_from_slice_get xs i r d (slice_get-get_or xs i r lt ∙ ap Some (sym e))

pub distance_read : (ds : List (Option ℕ)) (x : State) (n k : ℕ) (r : Option ℕ) → k ≡ state_place x → x.sector < n → length ds ≡ n * 2 → r ≡ get_or ds k r → distance_at ds x ≡ r
distance_read ds x n k r e lt len is =
    let p = below_place x n lt in
    ap (λ (i : ℕ). slice_index_or ds i None) (sym e) ∙ read_at ds k r None (omega (arith, p, len, e)) is
