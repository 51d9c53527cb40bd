-- The third point of a triangle that is entered through an edge, and the one edge by which a line can enter a triangle.
use Rattle.std.proofs.Common.{◌≡◌, ℕ, ℤ, pos, ◌<ℤ◌, arith, sym, ap, ◌∙◌, subst, inl, inr, List, Option, Some, slice_get, option_map, option_and_then}
use Rattle.std.proofs.lemmas.Int.{ints}
use Rattle.sight_names.specs.declared.names.Triangle.{Triangle}
use Rattle.sight_names.specs.Point.{point_of, turn_at}
use Rattle.sight_names.specs.Map.{Map}
use Rattle.sight_names.specs.Points.{place}
use Rattle.sight_names.specs.Mesh.{HasEdge, triangle_at, IsCounterclockwise}
use Rattle.sight_names.specs.Sequence.{Portal, entry_edge, third_point, apex}
use Rattle.mesh_base.proofs.SightLaws.Bridge.{turn_at_is}
use Rattle.mesh_base.proofs.GoodMesh.{found_at}
use Rattle.mesh_base.proofs.CleanMesh.{IsTurnedTo, turned_turn}

-- ---- the triangle behind a portal

pub record Behind (ts : List Triangle) (p : Portal) (k : ℕ) : Type 0 where
  pub triangle : Triangle
  pub there : slice_get ts k ≡ Some triangle
  pub edge : HasEdge triangle (entry_edge p)
  pub third : apex ts p ≡ Some (third_point (entry_edge p) triangle)

pub behind : (ts : List Triangle) (p : Portal) (k : ℕ) → triangle_at ts (entry_edge p) ≡ Some k → Behind ts p k
behind ts p k h =
    let u = found_at ts (entry_edge p) k h in
    record { triangle = u.0; there = u.1; edge = u.2; third = ap (λ (o : Option ℕ). option_map (third_point (entry_edge p)) (option_and_then (slice_get ts) o)) h ∙ ap (option_map (third_point (entry_edge p))) u.1 }

-- the third point is on the left of one who walks along the edge
pub third_on_left : (m : Map) (t : Triangle) (u v w : ℕ) → IsCounterclockwise m t → IsTurnedTo t u v w → pos 0 <ℤ turn_at (place m u) (place m v) (point_of (place m w))
third_on_left m t u v w c h = subst (λ (n : ℤ). pos 0 <ℤ n) (sym (turn_at_is (place m u) (place m v) (point_of (place m w)))) (turned_turn m t c u v w h)

-- ---- of the three edges of a triangle one leads from above a line to below it

clash : (a b : ℤ) → a ≡ b → pos 0 <ℤ a → b <ℤ pos 0 → ⊥
clash a b e h k = omega (arith, ints)

pub one_way_in : (at : ℕ → ℤ) (t : Triangle) (x y w u v z : ℕ) → IsTurnedTo t x y w → IsTurnedTo t u v z → pos 0 <ℤ at x → at y <ℤ pos 0 → pos 0 <ℤ at u → at v <ℤ pos 0 → (x ≡ u) × (y ≡ v)
one_way_in at t x y w u v z (inl (a, b, c)) (inl (g, h, i)) p q r s = (sym a ∙ g, sym b ∙ h)
one_way_in at t x y w u v z (inl (a, b, c)) (inr (inl (g, h, i))) p q r s = absurd (clash (at u) (at y) (ap at (sym g ∙ b)) r q)
one_way_in at t x y w u v z (inl (a, b, c)) (inr (inr (g, h, i))) p q r s = absurd (clash (at x) (at v) (ap at (sym a ∙ h)) p s)
one_way_in at t x y w u v z (inr (inl (a, b, c))) (inl (g, h, i)) p q r s = absurd (clash (at x) (at v) (ap at (sym a ∙ h)) p s)
one_way_in at t x y w u v z (inr (inl (a, b, c))) (inr (inl (g, h, i))) p q r s = (sym a ∙ g, sym b ∙ h)
one_way_in at t x y w u v z (inr (inl (a, b, c))) (inr (inr (g, h, i))) p q r s = absurd (clash (at u) (at y) (ap at (sym g ∙ b)) r q)
one_way_in at t x y w u v z (inr (inr (a, b, c))) (inl (g, h, i)) p q r s = absurd (clash (at u) (at y) (ap at (sym g ∙ b)) r q)
one_way_in at t x y w u v z (inr (inr (a, b, c))) (inr (inl (g, h, i))) p q r s = absurd (clash (at x) (at v) (ap at (sym a ∙ h)) p s)
one_way_in at t x y w u v z (inr (inr (a, b, c))) (inr (inr (g, h, i))) p q r s = (sym a ∙ g, sym b ∙ h)
