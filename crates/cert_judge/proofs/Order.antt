-- Triangles each of which comes behind the one before it are in order.
use Rattle.std.proofs.Common.{◌≡◌, ℕ, zero, suc, ◌+◌, ◌<◌, ◌⊎◌, inl, inr, List, Some, get_or, length, sym, ◌∙◌, ap, subst, arith}
use Rattle.std.specs.List.{slice_get}
use Rattle.std.specs.Prelude.{option_map}
use Rattle.std.proofs.lemmas.Option.{slice_get_within, slice_get-get_or, slice_get-map, same_Some}
use Rattle.sight_names.specs.declared.names.Triangle.{Triangle}
use Rattle.sight_names.specs.Mesh.{IsTriangle, IsAbove, AreTriangles}
use Rattle.cert_format.specs.declared.cert.Labelled.{Labelled}
use Rattle.cert_checker.specs.Apart.{triangles_in}
use Rattle.math_base.proofs.Lists.{get_there}
use Rattle.math_base.proofs.Numbers.{below_or_at, is_next}
use Rattle.cert_judge.specs.InOrder.{IsNextAt}
use Rattle.cert_format.proofs.WholeLaws.{above_carries as above_through}

module _ (points : ℕ) (ts : List Triangle) where
  ascending : ((k : ℕ) → k < length ts → IsNextAt points ts k) → (j i : ℕ) (t u : Triangle) → i < j → slice_get ts i ≡ Some t → slice_get ts j ≡ Some u → IsAbove t u
  ascending next zero i t u l e f = absurd (omega (arith, l))
  ascending next (suc j) i t u l e f = by (below_or_at i j l) (λ v lt is. ascending next j i t v lt e is)
    where
      within : suc j < length ts
      within = slice_get_within ts (suc j) u f

      by : (i < j) ⊎ (i ≡ j) → ((v : Triangle) → i < j → slice_get ts j ≡ Some v → IsAbove t v) → IsAbove t u
      by (inl lt) before = let v = get_there ts j (omega (arith, within)) in above_through t v.0 u (before v.0 lt v.1) ((next (suc j) within).above j v.0 u (is_next j) v.1 f)
      by (inr q) before = (next (suc j) within).above i t u (let h : i + 1 ≡ suc j = omega (arith, q) in h) e f

  pub all_next : ((k : ℕ) → k < length ts → IsNextAt points ts k) → AreTriangles points ts
  all_next next = record {
    each = λ k t e. (next k (slice_get_within ts k t e)).triangle t e;
    ascend = λ i j t u l e f. ascending next j i t u l e f;
  }

-- ---- triangles with their sectors

at_place : (ls : List Labelled) (k : ℕ) (d : Labelled) → k < length ls → slice_get (triangles_in ls) k ≡ Some (get_or ls k d).triangle
at_place ls k d l = slice_get-map (λ (x : Labelled). x.triangle) ls k ∙ ap (option_map (λ (x : Labelled). x.triangle)) (slice_get-get_or ls k d l)

module _ (points : ℕ) (ls : List Labelled) (k : ℕ) (d : Labelled) (within : k < length ls) where
  pub next_of : (j : ℕ) (e : Labelled) → j + 1 ≡ k → IsTriangle points (get_or ls k d).triangle → IsAbove (get_or ls j e).triangle (get_or ls k d).triangle → IsNextAt points (triangles_in ls) k
  next_of j e q is above = record {
    triangle = λ t h. subst (IsTriangle points) (same_Some (get_or ls k d).triangle t (sym (at_place ls k d within) ∙ h)) is;
    above = λ i t u p h g. subst (IsAbove t) (same_Some (get_or ls k d).triangle u (sym (at_place ls k d within) ∙ g))
        (subst (λ (x : Triangle). IsAbove x (get_or ls k d).triangle) (same_Some (get_or ls j e).triangle t (sym (at_place ls j e (omega (arith, q, within))) ∙ ap (slice_get (triangles_in ls)) (let r : j ≡ i = omega (arith, p, q) in r) ∙ h)) above);
  }

  pub triangle_of_next : IsNextAt points (triangles_in ls) k → IsTriangle points (get_or ls k d).triangle
  triangle_of_next next = next.triangle (get_or ls k d).triangle (at_place ls k d within)

  pub above_of_next : (j : ℕ) (e : Labelled) → j + 1 ≡ k → IsNextAt points (triangles_in ls) k → IsAbove (get_or ls j e).triangle (get_or ls k d).triangle
  above_of_next j e q next = next.above j (get_or ls j e).triangle (get_or ls k d).triangle q (at_place ls j e (omega (arith, q, within))) (at_place ls k d within)
