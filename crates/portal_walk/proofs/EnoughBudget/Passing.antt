-- The passable lines of a plan are those of its map, and their product with points and triangles fits.
use Rattle.std.proofs.Common.{◌≡◌, ℕ, ◌*◌, ◌≤◌, max, arith, refl, sym, ◌∙◌, List, [], ◌∷◌, length, map, filter, Bool, true, false, cond, Option, Some, None, option_map}
use Rattle.sight_names.specs.declared.names.Pt.{Pt}
use Rattle.sight_names.specs.declared.plan.Line.{Line}
use Rattle.sight_names.specs.Map.{looked_up}
use Rattle.sight_names.specs.Enough.{is_passable}
use Rattle.portal_walk.specs.EnoughBudget.Passable.{is_open}

same_test : (points : List Pt) (o : Option Line) → is_passable (option_map (looked_up points) o) ≡ is_open o
same_test points None = refl
same_test points (Some l) = refl

pub same_count : (points : List Pt) (os : List (Option Line)) → length (filter is_passable (map (option_map (looked_up points)) os)) ≡ length (filter is_open os)
same_count points [] = refl
same_count points (o ∷ os) = go (is_passable (option_map (looked_up points) o)) (is_open o) (same_test points o) (same_count points os)
  where
    go : (a b : Bool) → a ≡ b → length (filter is_passable (map (option_map (looked_up points)) os)) ≡ length (filter is_open os)
        → length (cond a (option_map (looked_up points) o ∷ filter is_passable (map (option_map (looked_up points)) os)) (filter is_passable (map (option_map (looked_up points)) os))) ≡ length (cond b (o ∷ filter is_open os) (filter is_open os))
    go true true e r = omega (arith, r)
    go false false e r = r
    go true false e r = absurd (Rattle.std.proofs.Common.true≢false e)
    go false true e r = absurd (Rattle.std.proofs.Common.true≢false (sym e))

either_way : (a : ℕ) → max a 1 ≡ max 1 a
either_way a = omega arith

-- what the call computes is the number that the definition names
pub is_product : (r l v t k n o : ℕ) → r ≡ max (l * v * v * t) 1 → l ≡ k → v ≡ n → t ≡ o → r ≡ max 1 (k * n * n * o)
is_product r l v t k n o e f g h = e ∙ either_way (l * v * v * t) ∙ (λ i. max 1 (f i * g i * g i * h i))

pub at_most : (r p n : ℕ) → r ≡ max p 1 → p ≤ n → 1 ≤ n → r ≤ n
at_most r p n e h k = omega arith
