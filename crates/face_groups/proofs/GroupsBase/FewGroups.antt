-- There are at most as many groups as triangles, since each is the label of one.
use Rattle.std.proofs.Common.{◌≡◌, ℕ, zero, suc, ◌+◌, ◌<◌, ◌≤◌, refl, sym, ap, ◌∙◌, List, [], ◌∷◌, length, slice_get, slice_index_or, Option, Some, arith}
use Rattle.std.proofs.lemmas.Option.{same_Some, none-some, option_and_then_some, slice_get-get_or}
use Rattle.sight_names.specs.declared.names.Triangle.{Triangle}
use Rattle.sight_names.specs.Mesh.{label_of}
use Rattle.face_groups.specs.GroupsBase.Table.{AreUsed}
use Rattle.face_groups.proofs.GroupsBase.Ordered.{Has}

-- the list without its k-th member
without : {X : Type 0} → ℕ → List X → List X
without k [] = []
without zero (x ∷ xs) = xs
without (suc k) (x ∷ xs) = x ∷ without k xs

shorter : {X : Type 0} (k : ℕ) (xs : List X) (y : X) → slice_get xs k ≡ Some y → length (without k xs) + 1 ≡ length xs
unfolding without
shorter k [] y e = absurd (none-some y e)
shorter zero (x ∷ xs) y e = omega arith
shorter (suc k) (x ∷ xs) y e = let h = shorter k xs y e in omega (arith, h)

kept : {X : Type 0} (k j : ℕ) (xs : List X) (y : X) → slice_get xs j ≡ Some y → ¬ (j ≡ k) → Has (without k xs) y
unfolding without
kept k j [] y e n = absurd (none-some y e)
kept zero zero (x ∷ xs) y e n = absurd (n refl)
kept zero (suc j) (x ∷ xs) y e n = (j, e)
kept (suc k) zero (x ∷ xs) y e n = (0, e)
kept (suc k) (suc j) (x ∷ xs) y e n = let h = kept k j xs y e (λ q. n (ap suc q)) in (suc h.0, h.1)

-- a list that has all numbers below n isn't shorter
pub has_all : (n : ℕ) (xs : List (Option ℕ)) → ((f : ℕ) → f < n → Has xs (Some f)) → n ≤ length xs
has_all zero xs all = omega arith
has_all (suc n) xs all =
    let h = all n (omega arith) in
    let s = shorter h.0 xs (Some n) h.1 in
    let r = has_all n (without h.0 xs) (λ f lt. let k = all f (omega (arith, lt)) in kept h.0 k.0 xs (Some f) k.1 (λ q. other f lt k.0 k.1 h.0 h.1 q)) in
    omega (arith, s, r)
  where
    other : (f : ℕ) → f < n → (j : ℕ) → slice_get xs j ≡ Some (Some f) → (k : ℕ) → slice_get xs k ≡ Some (Some n) → j ≡ k → ⊥
    other f lt j ej k ek q = let e = same_Some f n (same_Some (Some f) (Some n) (sym ej ∙ ap (slice_get xs) q ∙ ek)) in omega (arith, lt, e)

pub few_groups : (ts : List Triangle) (groups : List (List ℕ)) (ls : List (Option ℕ)) → length ls ≡ length ts → AreUsed ts groups ls → length groups ≤ length ts
few_groups ts groups ls len used =
    let r = has_all (length groups) ls (λ f lt. let u = used f (slice_index_or groups f []) (slice_get-get_or groups f [] lt) in there u.1.0 f u.1.2) in
    omega (arith, len, r)
  where
    there : (k f : ℕ) → label_of ls k ≡ Some f → Has ls (Some f)
    there k f e = option_and_then_some (λ (x : Option ℕ). x) (slice_get ls k) f e (λ x at same. (k, at ∙ ap (λ (y : Option ℕ). Some y) same))
