-- The number of a half-edge tells its edge, and the edge its number.
use Rattle.std.proofs.Common.{◌≡◌, ℕ, ◌+◌, ◌*◌, ◌<◌, ◌⊎◌, inl, inr, List, Option, Some, None, Bool, true, false, refl, sym, ◌∙◌, ap, subst, arith, if◌then◌else◌, ◌==◌, option_and_then, option_map, slice_get}
use Rattle.std.proofs.lemmas.Option.{none-some, same_Some}
use Rattle.sight_names.specs.declared.names.Triangle.{Triangle}
use Rattle.sight_names.specs.Points.{Edge}
use Rattle.sight_names.specs.Mesh.{triangle_at, HasEdge, IsTriangle, AreTriangles}
use Rattle.mesh_shape.proofs.RuleLemmas.{edge_cases}
use Rattle.mesh_shape.specs.HalfEdges.Numbers.{edge, corner_of, half_edge_number}
use Rattle.math_base.proofs.Numbers.{below_differs, tells_other, tells_same}
use Rattle.mesh_base.proofs.GoodMesh.{found_at}

-- the triangle and the corner of a number
pub record IsNumber (ts : List Triangle) (e : Edge) (i : ℕ) : Type 0 where
  pub triangle : ℕ
  pub corners : Triangle
  pub found : triangle_at ts e ≡ Some triangle
  pub is : slice_get ts triangle ≡ Some corners
  pub number : i ≡ triangle * 3 + corner_of e corners

pub number_is : (ts : List Triangle) (e : Edge) (i : ℕ) → half_edge_number ts e ≡ Some i → IsNumber ts e i
number_is ts e i h = at (triangle_at ts e) refl h
  where
    here : (k : ℕ) (o : Option Triangle) → triangle_at ts e ≡ Some k → slice_get ts k ≡ o → option_map (λ (t : Triangle). k * 3 + corner_of e t) o ≡ Some i → IsNumber ts e i
    here k None f g q = absurd (none-some i q)
    here k (Some t) f g q = record { triangle = k; corners = t; found = f; is = g; number = sym (same_Some (k * 3 + corner_of e t) i q) }

    at : (o : Option ℕ) → triangle_at ts e ≡ o → option_and_then (λ k. option_map (λ (t : Triangle). k * 3 + corner_of e t) (slice_get ts k)) o ≡ Some i → IsNumber ts e i
    at None f q = absurd (none-some i q)
    at (Some k) f q = here k (slice_get ts k) f refl q

pub number_at : (ts : List Triangle) (e : Edge) (k : ℕ) (t : Triangle) → triangle_at ts e ≡ Some k → slice_get ts k ≡ Some t → half_edge_number ts e ≡ Some (k * 3 + corner_of e t)
number_at ts e k t f g = ap (option_and_then (λ j. option_map (λ (u : Triangle). j * 3 + corner_of e u) (slice_get ts j))) f ∙ ap (option_map (λ (u : Triangle). k * 3 + corner_of e u)) g

-- where no half-edge goes along the edge, no triangle has it
pub no_number : (ts : List Triangle) (e : Edge) → half_edge_number ts e ≡ None → triangle_at ts e ≡ None
no_number ts e h = at (triangle_at ts e) refl
  where
    at : (o : Option ℕ) → triangle_at ts e ≡ o → triangle_at ts e ≡ None
    at None f = f
    at (Some k) f = let t = found_at ts e k f in absurd (none-some (k * 3 + corner_of e t.0) (sym h ∙ number_at ts e k t.0 f t.1))

-- ---- corners

by_tests : (b c x y : Bool) → b ≡ x → c ≡ y → ◌≡◌ {A = ℕ} (if b then 0 else (if c then 1 else 2)) (if x then 0 else (if y then 1 else 2))
by_tests b c x y e f = ap (λ (z : Bool). let n : ℕ = if z then 0 else (if c then 1 else 2) in n) e ∙ ap (λ (z : Bool). let n : ℕ = if x then 0 else (if z then 1 else 2) in n) f

-- the edge is the one that begins at this corner
abbrev pub IsCornerEdge : Triangle → Edge → Type 0
IsCornerEdge t e = ((e ≡ edge t.p t.q) × (corner_of e t ≡ 0)) ⊎ ((e ≡ edge t.q t.r) × (corner_of e t ≡ 1)) ⊎ ((e ≡ edge t.r t.p) × (corner_of e t ≡ 2))

corner_is : (n : ℕ) (t : Triangle) (e : Edge) → IsTriangle n t → HasEdge t e → IsCornerEdge t e
corner_is n t e is h = edge_cases t e (IsCornerEdge t)
    (inl (refl, by_tests (t.p == t.p) (t.q == t.p) true (t.q == t.p) (tells_same t.p t.p refl) refl))
    (inr (inl (refl, by_tests (t.p == t.q) (t.q == t.q) false true (tells_other t.p t.q (below_differs t.p t.q is.least)) (tells_same t.q t.q refl))))
    (inr (inr (refl, by_tests (t.p == t.r) (t.q == t.r) false false (tells_other t.p t.r (below_differs t.p t.r is.least_too)) (tells_other t.q t.r is.differ)))) h

corner_few : (t : Triangle) (e : Edge) → IsCornerEdge t e → corner_of e t < 3
corner_few t e (inl h) = omega (arith, h.1)
corner_few t e (inr (inl h)) = omega (arith, h.1)
corner_few t e (inr (inr h)) = omega (arith, h.1)

one_corner : (t : Triangle) (e f : Edge) → IsCornerEdge t e → IsCornerEdge t f → corner_of e t ≡ corner_of f t → e ≡ f
one_corner t e f (inl h) (inl k) q = h.0 ∙ sym k.0
one_corner t e f (inr (inl h)) (inr (inl k)) q = h.0 ∙ sym k.0
one_corner t e f (inr (inr h)) (inr (inr k)) q = h.0 ∙ sym k.0
one_corner t e f (inl h) (inr (inl k)) q = absurd (omega (arith, h.1, k.1, q))
one_corner t e f (inl h) (inr (inr k)) q = absurd (omega (arith, h.1, k.1, q))
one_corner t e f (inr (inl h)) (inl k) q = absurd (omega (arith, h.1, k.1, q))
one_corner t e f (inr (inl h)) (inr (inr k)) q = absurd (omega (arith, h.1, k.1, q))
one_corner t e f (inr (inr h)) (inl k) q = absurd (omega (arith, h.1, k.1, q))
one_corner t e f (inr (inr h)) (inr (inl k)) q = absurd (omega (arith, h.1, k.1, q))

-- ---- in a mesh

module _ (n : ℕ) (ts : List Triangle) (all : AreTriangles n ts) where
  pub corner_at : (e : Edge) (i : ℕ) → (a : IsNumber ts e i) → IsCornerEdge a.corners e
  corner_at e i a = at (found_at ts e a.triangle a.found)
    where
      at : (t : Triangle) × (slice_get ts a.triangle ≡ Some t) × HasEdge t e → IsCornerEdge a.corners e
      at (t, h, k) = corner_is n a.corners e (all.each a.triangle a.corners a.is) (subst (λ (x : Triangle). HasEdge x e) (same_Some t a.corners (sym h ∙ a.is)) k)

  -- one number has one edge
  pub one_edge : (e f : Edge) (i : ℕ) → half_edge_number ts e ≡ Some i → half_edge_number ts f ≡ Some i → e ≡ f
  one_edge e f i g h = by (number_is ts e i g) (number_is ts f i h)
    where
      by : IsNumber ts e i → IsNumber ts f i → e ≡ f
      by a b = one_corner a.corners e f (corner_at e i a) (subst (λ (t : Triangle). IsCornerEdge t f) same (corner_at f i b)) (apart ∙ ap (corner_of f) same)
        where
          first : corner_of e a.corners < 3
          first = corner_few a.corners e (corner_at e i a)

          second : corner_of f b.corners < 3
          second = corner_few b.corners f (corner_at f i b)

          triangles : b.triangle ≡ a.triangle
          triangles = omega (arith, a.number, b.number, first, second)

          same : b.corners ≡ a.corners
          same = same_Some b.corners a.corners (sym b.is ∙ ap (slice_get ts) triangles ∙ a.is)

          apart : corner_of e a.corners ≡ corner_of f b.corners
          apart = omega (arith, a.number, b.number, first, second)
