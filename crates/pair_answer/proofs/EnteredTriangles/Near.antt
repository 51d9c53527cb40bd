-- What holds at all points near enough to a given one: forms that are above 0 at the point tell how near.
use Rattle.std.proofs.Common.{pos, ◌≡◌, ℕ, zero, suc, List, [], ◌∷◌, ◌++◌, arith, ◌≤ℤ◌, ◌<ℤ◌, inl, inr, slice_get, Some, subst}
use Rattle.math_base.proofs.Signs.{le_or_lt}
use Rattle.std.proofs.lemmas.Option.{none-some, same_Some}
use Rattle.sight_names.specs.declared.names.Triangle.{Triangle}
use Rattle.sight_names.specs.Map.{Map}
use Rattle.plane_base.proofs.Vec.{V, Lin, at, edge, det, det-swap}
use Rattle.plane_base.proofs.Linear.{linear}
use Rattle.plane_base.proofs.Walk.{Tri, Closed}
use Rattle.mesh_base.proofs.GoodMesh.{tri_of}
use Rattle.sight_lift.proofs.Free.{Every}

abbrev pub AreAbove : List Lin → V → Type 0
AreAbove fs q = Every (λ (f : Lin). pos 0 <ℤ at f q) fs

above_join : (fs gs : List Lin) (q : V) → AreAbove fs q → AreAbove gs q → AreAbove (fs ++ gs) q
above_join [] gs q h k = k
above_join (f ∷ fs) gs q h k = (h.0, above_join fs gs q h.1 k)

above_left : (fs gs : List Lin) (q : V) → AreAbove (fs ++ gs) q → AreAbove fs q
above_left [] gs q h = tt
above_left (f ∷ fs) gs q h = (h.0, above_left fs gs q h.1)

above_right : (fs gs : List Lin) (q : V) → AreAbove (fs ++ gs) q → AreAbove gs q
above_right [] gs q h = h
above_right (f ∷ fs) gs q h = above_right fs gs q h.1

-- wherever these forms are above 0, as they are at z, this holds
pub record Near (z : V) (Holds : V → Type 0) : Type 0 where
  pub forms : List Lin
  pub first : AreAbove forms z
  pub keeps : (q : V) → AreAbove forms q → Holds q

pub near_both : (z : V) (A B : V → Type 0) → Near z A → Near z B → Near z (λ q. A q × B q)
near_both z A B f g = record {
  forms = f.forms ++ g.forms;
  first = above_join f.forms g.forms z f.first g.first;
  keeps = λ q h. (f.keeps q (above_left f.forms g.forms q h), g.keeps q (above_right f.forms g.forms q h));
}

pub near_so : (z : V) (A B : V → Type 0) → ((q : V) → A q → B q) → Near z A → Near z B
near_so z A B so f = record { forms = f.forms; first = f.first; keeps = λ q h. so q (f.keeps q h) }

-- a point that isn't on the right of an edge is so where points near it are
near_edge : (u v z : V) → Near z (λ q. pos 0 ≤ℤ det u v q → pos 0 ≤ℤ det u v z)
near_edge u v z = elim (le_or_lt (pos 0) (det u v z)) as (λ _. Near z (λ q. pos 0 ≤ℤ det u v q → pos 0 ≤ℤ det u v z)) [
  | inl h ↦ record { forms = []; first = tt; keeps = λ q e k. h }
  | inr l ↦ record {
    forms = edge v u ∷ [];
    first = ((let s = det-swap u v z in omega (arith, linear, s, l)), tt);
    keeps = λ q e k. absurd (let s = det-swap u v q in let f = e.0 in omega (arith, linear, s, f, k));
  }
]

-- a closed triangle that has points near enough has the point
near_triangle : (t : Tri) (z : V) → Near z (λ q. Closed t q → Closed t z)
near_triangle t z =
    near_so z (λ q. (pos 0 ≤ℤ det t.a t.b q → pos 0 ≤ℤ det t.a t.b z) × ((pos 0 ≤ℤ det t.b t.c q → pos 0 ≤ℤ det t.b t.c z) × (pos 0 ≤ℤ det t.c t.a q → pos 0 ≤ℤ det t.c t.a z))) (λ q. Closed t q → Closed t z)
    (λ q h c. record { ab = h.0 c.ab; bc = h.1.0 c.bc; ca = h.1.1 c.ca })
    (near_both z (λ q. pos 0 ≤ℤ det t.a t.b q → pos 0 ≤ℤ det t.a t.b z) (λ q. (pos 0 ≤ℤ det t.b t.c q → pos 0 ≤ℤ det t.b t.c z) × (pos 0 ≤ℤ det t.c t.a q → pos 0 ≤ℤ det t.c t.a z)) (near_edge t.a t.b z)
    (near_both z (λ q. pos 0 ≤ℤ det t.b t.c q → pos 0 ≤ℤ det t.b t.c z) (λ q. pos 0 ≤ℤ det t.c t.a q → pos 0 ≤ℤ det t.c t.a z) (near_edge t.b t.c z) (near_edge t.c t.a z)))

-- so has each of these triangles
abbrev pub HaveToo : Map → List Triangle → V → V → Type 0
HaveToo m ts z q = (k : ℕ) (t : Triangle) → slice_get ts k ≡ Some t → Closed (tri_of m t) q → Closed (tri_of m t) z

pub near_triangles : (m : Map) (ts : List Triangle) (z : V) → Near z (HaveToo m ts z)
near_triangles m [] z = record { forms = []; first = tt; keeps = λ q e k t is. absurd (none-some t is) }
near_triangles m (u ∷ us) z = near_so z (λ q. (Closed (tri_of m u) q → Closed (tri_of m u) z) × HaveToo m us z q) (HaveToo m (u ∷ us) z) both (near_both z (λ q. Closed (tri_of m u) q → Closed (tri_of m u) z) (HaveToo m us z) (near_triangle (tri_of m u) z) (near_triangles m us z))
  where
    both : (q : V) → (Closed (tri_of m u) q → Closed (tri_of m u) z) × HaveToo m us z q → HaveToo m (u ∷ us) z q
    both q h zero t is = subst (λ (x : Triangle). Closed (tri_of m x) q → Closed (tri_of m x) z) (same_Some u t is) h.0
    both q h (suc k) t is = h.1 k t is
