-- Whether one could pass into an unmarked triangle by a directed edge, from the half-edge there.
use Rattle.std.proofs.Common.{◌≡◌, ℕ, ◌<◌, ◌⊎◌, ◌↔◌, inl, inr, List, Bool, true, false, not, IsTrue, Option, Some, None, slice_get, length, refl, sym, ◌∙◌, subst}
use Rattle.std.proofs.lemmas.Bool.{true≢false}
use Rattle.std.proofs.lemmas.Option.{none-some, same_Some}
use Rattle.sight_names.specs.declared.names.Triangle.{Triangle}
use Rattle.sight_names.specs.Map.{map_of}
use Rattle.sight_names.specs.Mesh.{triangle_at}
use Rattle.sight_names.specs.Plan.{PlanParts}
use Rattle.sight_names.specs.Points.{Edge}
use Rattle.sight_names.specs.Sequence.{Portal, IsSolidLine}
use Rattle.mesh_shape.specs.declared.half_edges.table.HalfEdge.{HalfEdge}
use Rattle.mesh_shape.specs.HalfEdges.Kinds.{portal_on}
use Rattle.mesh_shape.specs.HalfEdges.HalfEdges.{AreHalfEdges, entering}
use Rattle.mesh_shape.proofs.HalfEdges.Reached.{not_reached, reached}
use Rattle.pair_answer.specs.EnteredTriangles.Marks.{IsNumberMarked}
use Rattle.pair_answer.specs.EnteredTriangles.Stops.{LeavesAt}

module _ (p : PlanParts) (ts : List Triangle) (labels : List (Option ℕ)) (xs : List HalfEdge) (are : AreHalfEdges p ts labels xs) (marks : List Bool) where
  -- the half-edge behind the way is of a triangle with its place in the mesh
  pub behind_within : (e : Edge) (i : ℕ) (x : HalfEdge) → entering ts xs e ≡ Some i → slice_get xs i ≡ Some x → x.triangle < length ts
  behind_within e i x h at =
      let r = reached p ts labels xs are e i h in
      subst (λ (y : HalfEdge). y.triangle < length ts) (same_Some r.x x (sym r.at ∙ at)) r.is.within

  pub none_leaves : (e : Edge) → entering ts xs e ≡ None → ¬ LeavesAt (map_of p) ts (IsNumberMarked marks) e
  none_leaves e h l = by (not_reached p ts labels xs are e h)
    where
      by : (triangle_at ts e ≡ None) ⊎ IsSolidLine (map_of p) (portal_on e) → ⊥
      by (inl n) = none-some l.beyond (sym n ∙ l.is)
      by (inr w) = l.free w

  pub some_leaves : (e : Edge) (i : ℕ) (x : HalfEdge) → entering ts xs e ≡ Some i → slice_get xs i ≡ Some x → (b : Bool) → slice_get marks x.triangle ≡ Some b → IsTrue (not b) ↔ LeavesAt (map_of p) ts (IsNumberMarked marks) e
  some_leaves e i x h at b mark = by b mark
    where
      here : triangle_at ts e ≡ Some x.triangle
      here = let r = reached p ts labels xs are e i h in subst (λ (y : HalfEdge). triangle_at ts e ≡ Some y.triangle) (same_Some r.x x (sym r.at ∙ at)) r.is.triangle

      free : ¬ IsSolidLine (map_of p) (record { left = e.from; right = e.to })
      free = let r = reached p ts labels xs are e i h in subst (λ (d : Portal). ¬ IsSolidLine (map_of p) d) r.is.portal r.no_wall

      by : (b : Bool) → slice_get marks x.triangle ≡ Some b → IsTrue (not b) ↔ LeavesAt (map_of p) ts (IsNumberMarked marks) e
      by true m = ((λ t. absurd (true≢false (sym t))), (λ l. absurd (l.outside (subst (λ (k : ℕ). IsNumberMarked marks k) (same_Some x.triangle l.beyond (sym here ∙ l.is)) m))))
      by false m = ((λ t. record { beyond = x.triangle; is = here; outside = λ c. true≢false (same_Some true false (sym c ∙ m)); free = free }), (λ l. refl))
