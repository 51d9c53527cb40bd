-- What is known of the half-edge that one enters by, of one that no way leads to, and of its two ends.
use Rattle.std.proofs.Common.{◌≡◌, ℕ, ◌⊎◌, inl, inr, List, Option, Some, None, Bool, true, false, refl, sym, ◌∙◌, ap, subst, if◌then◌else◌, option_and_then, slice_get}
use Rattle.std.proofs.lemmas.Bool.{true≢false}
use Rattle.std.proofs.lemmas.Option.{none-some, same_Some}
use Rattle.sight_names.specs.declared.names.Triangle.{Triangle}
use Rattle.sight_names.specs.Plan.{PlanParts}
use Rattle.sight_names.specs.Map.{map_of}
use Rattle.sight_names.specs.Points.{Edge}
use Rattle.sight_names.specs.Mesh.{HasEdge, triangle_at}
use Rattle.sight_names.specs.Sequence.{names_it, third_point, IsSolidLine}
use Rattle.mesh_base.proofs.CleanMesh.{IsTurnedTo, turned_to_third, edge_rp, edge_qr, edge_pq}
use Rattle.mesh_shape.specs.declared.half_edges.table.HalfEdge.{HalfEdge}
use Rattle.mesh_shape.specs.HalfEdges.Numbers.{edge, half_edge_number}
use Rattle.mesh_shape.specs.HalfEdges.Kinds.{portal_on}
use Rattle.mesh_shape.specs.HalfEdges.HalfEdges.{portal_into, entering, way_outside, IsHalfEdge, AreHalfEdges}
use Rattle.mesh_shape.proofs.HalfEdges.Numbers.{no_number}

-- the half-edge behind a way
pub record IsReached (p : PlanParts) (ts : List Triangle) (labels : List (Option ℕ)) (xs : List HalfEdge) (e : Edge) (i : ℕ) : Type 0 where
  pub x : HalfEdge
  pub at : slice_get xs i ≡ Some x
  pub number : half_edge_number ts e ≡ Some i
  pub is : IsHalfEdge p ts labels xs e x
  pub open_ : x.solid ≡ false
  pub no_wall : ¬ IsSolidLine (map_of p) (portal_into x)

module _ (p : PlanParts) (ts : List Triangle) (labels : List (Option ℕ)) (xs : List HalfEdge) (are : AreHalfEdges p ts labels xs) where
  -- what entering says of a number whose half-edge is told
  pub entering_at : (e : Edge) (i : ℕ) (x : HalfEdge) → half_edge_number ts e ≡ Some i → slice_get xs i ≡ Some x → entering ts xs e ≡ (let o : Option ℕ = if x.solid then None else Some i in o)
  entering_at e i x h f = ap (option_and_then (λ j. option_and_then (λ (y : HalfEdge). let o : Option ℕ = if y.solid then None else Some j in o) (slice_get xs j))) h ∙ ap (option_and_then (λ (y : HalfEdge). let o : Option ℕ = if y.solid then None else Some i in o)) f

  pub entering_nowhere : (e : Edge) → half_edge_number ts e ≡ None → entering ts xs e ≡ None
  entering_nowhere e h = ap (option_and_then (λ j. option_and_then (λ (y : HalfEdge). let o : Option ℕ = if y.solid then None else Some j in o) (slice_get xs j))) h

  pub reached : (e : Edge) (i : ℕ) → entering ts xs e ≡ Some i → IsReached p ts labels xs e i
  reached e i h = at (half_edge_number ts e) refl
    where
      by : (j : ℕ) (x : HalfEdge) → half_edge_number ts e ≡ Some j → slice_get xs j ≡ Some x → IsHalfEdge p ts labels xs e x → (b : Bool) → x.solid ≡ b → IsReached p ts labels xs e i
      by j x n f is true s = absurd (none-some i (sym (entering_at e j x n f ∙ ap (λ (b : Bool). let o : Option ℕ = if b then None else Some j in o) s) ∙ h))
      by j x n f is false s =
          let q : j ≡ i = same_Some j i (sym (entering_at e j x n f ∙ ap (λ (b : Bool). let o : Option ℕ = if b then None else Some j in o) s) ∙ h) in
          record {
            x = x;
            at = ap (slice_get xs) (sym q) ∙ f;
            number = n ∙ ap (λ (k : ℕ). let o : Option ℕ = Some k in o) q;
            is = is;
            open_ = s;
            no_wall = λ w. true≢false (sym (is.solid.1 w) ∙ s);
          }

      at : (o : Option ℕ) → half_edge_number ts e ≡ o → IsReached p ts labels xs e i
      at None n = absurd (none-some i (sym (entering_nowhere e n) ∙ h))
      at (Some j) n = let f = are.each e j n in by j f.0 n f.1 f.2 f.0.solid refl

  -- no way leads where no triangle is, or through a solid line
  pub not_reached : (e : Edge) → entering ts xs e ≡ None → (triangle_at ts e ≡ None) ⊎ IsSolidLine (map_of p) (portal_on e)
  not_reached e h = at (half_edge_number ts e) refl
    where
      by : (j : ℕ) (x : HalfEdge) → half_edge_number ts e ≡ Some j → slice_get xs j ≡ Some x → IsHalfEdge p ts labels xs e x → (b : Bool) → x.solid ≡ b → (triangle_at ts e ≡ None) ⊎ IsSolidLine (map_of p) (portal_on e)
      by j x n f is true s = inr (subst (IsSolidLine (map_of p)) is.portal (is.solid.0 s))
      by j x n f is false s = absurd (none-some j (sym h ∙ entering_at e j x n f ∙ ap (λ (b : Bool). let o : Option ℕ = if b then None else Some j in o) s))

      at : (o : Option ℕ) → half_edge_number ts e ≡ o → (triangle_at ts e ≡ None) ⊎ IsSolidLine (map_of p) (portal_on e)
      at None n = inl (no_number ts e n)
      at (Some j) n = let f = are.each e j n in by j f.0 n f.1 f.2 f.0.solid refl

-- ---- ways out of the source

pub outside_is : (xs : List HalfEdge) (source i : ℕ) (x : HalfEdge) → slice_get xs i ≡ Some x → way_outside xs source (Some i) ≡ (let o : Option ℕ = if names_it x.sector source then None else Some i in o)
outside_is xs source i x e = ap (option_and_then (λ (y : HalfEdge). let o : Option ℕ = if names_it y.sector source then None else Some i in o)) e

-- ---- the two other edges of a triangle

pub other_edges : (t : Triangle) (e : Edge) → HasEdge t e → HasEdge t (edge (third_point e t) e.from) × HasEdge t (edge e.to (third_point e t))
other_edges t e h = by (third_point e t) (turned_to_third t e.from e.to h)
  where
    moved : {a b c d : ℕ} → a ≡ c → b ≡ d → HasEdge t (edge a b) → HasEdge t (edge c d)
    moved {a} {b} {c} {d} f g k = subst (HasEdge t) (let q : edge a b ≡ edge c d = λ i. edge (f i) (g i) in q) k

    by : (w : ℕ) → IsTurnedTo t e.from e.to w → HasEdge t (edge w e.from) × HasEdge t (edge e.to w)
    by w (inl (f, g, k)) = (moved k f (edge_rp t), moved g k (edge_qr t))
    by w (inr (inl (f, g, k))) = (moved k f (edge_pq t), moved g k (edge_rp t))
    by w (inr (inr (f, g, k))) = (moved k f (edge_qr t), moved g k (edge_pq t))

-- ---- ends
