-- A ray that passes from the side that it leaves to the side on which it arrives: the order of its crossings, and what meets its stretch.
use Rattle.std.proofs.Common.{◌≡◌, ℤ, pos, ◌≤ℤ◌, ◌<ℤ◌, arith, sym, ◌∙◌, subst, inl, inr}
use borrow.Author.Differences.{ints}
use Rattle.math_base.proofs.Signs.{le_or_lt}
use Rattle.sight_names.specs.declared.names.Pt.{Pt}
use Rattle.sight_names.specs.declared.names.Ray.{Ray}
use Rattle.sight_names.specs.Point.{Point, point_of, OnSegment}
use Rattle.sight_names.specs.Map.{MapLine}
use Rattle.sight_names.specs.Path.{OnLine}
use Rattle.sight_names.specs.Ray.{ray_value, NotBehind}
use Rattle.plane_base.proofs.Vec.{V, det}
use Rattle.plane_base.proofs.Near.{on_straight}
use Rattle.mesh_base.proofs.Face.{Clean}
use Rattle.mesh_base.proofs.SightLaws.Bridge.{vec, turn_at_is, on_of_segment}
use Rattle.mesh_base.proofs.SightLaws.Rays.{lin, value_is, not_both, stretch_on_ray, stretch_after, stretch_before, Parts, turn_not_before, turn_behind, turn_before}
use Rattle.mesh_base.proofs.CleanMesh.{tri}
use Rattle.mesh_base.proofs.Joined.{whole}
use Rattle.mesh_base.proofs.StretchBase.Passes.{IsEntered, IsOn, Passage, Met, passage_order, passage_meets}
use Rattle.sight_names.proofs.Portals.{scale_above}

-- p is where the ray crosses the segment from u to v
pub record Crosses (r : Ray) (u v : Pt) (p : Point) : Type 0 where
  pub parts : Parts r u v
  pub on : OnSegment (point_of u) (point_of v) p
  pub zero : ray_value r p ≡ pos 0

is_on : (r : Ray) (p : Point) → ray_value r p ≡ pos 0 → IsOn (lin r) (vec p)
is_on r p e = record { above = scale_above p; zero = sym (value_is r p) ∙ e }

-- the ray passes through triangles from the crossing s with u v to the crossing t with y z
module _ (r : Ray) (P : V → V → V → Type 0) (of : (a b c : V) → P a b c → IsEntered (lin r) a b c) (u v y z : Pt) (s t : Point) (at_s : Crosses r u v s) (at_t : Crosses r y z t) (way : Passage (lin r) P (whole y) (whole z) (whole u) (whole v)) where
  pub in_order : NotBehind r s t
  in_order = turn_not_before r u v s t at_s.parts at_s.on at_s.zero at_t.zero (back (turn_at_is u v t) (passage_order (lin r) P (whole y) (whole z) of (whole u) (whole v) (vec t) (is_on r t at_t.zero) way (zero_not_below (on_straight (whole y) (whole z) (vec t) (on_of_segment (point_of y) (point_of z) t at_t.on)))))
    where
      back : {a b : ℤ} → a ≡ b → pos 0 ≤ℤ b → pos 0 ≤ℤ a
      back e h = subst (λ (x : ℤ). pos 0 ≤ℤ x) (sym e) h

      zero_not_below : {a : ℤ} → a ≡ pos 0 → pos 0 ≤ℤ a
      zero_not_below e = omega (arith, ints)

  -- a line with a point of the stretch is one of the sides that are entered
  pub met_on_stretch : (l : MapLine) (m : Point) → ((a b c : V) → P a b c → Clean (tri a b c) (whole l.first) (whole l.second)) → OnSegment s t m → OnLine l m → Met P (whole l.first) (whole l.second)
  met_on_stretch l m clean on on_line = passage_meets (lin r) P (whole y) (whole z) of (whole l.first) (whole l.second) (vec m) clean (is_on r m zero) (on_of_segment (point_of l.first) (point_of l.second) m on_line) not_behind (whole u) (whole v) way not_before
    where
      zero : ray_value r m ≡ pos 0
      zero = stretch_on_ray r s t m at_s.zero at_t.zero on

      not_before : pos 0 ≤ℤ det (whole u) (whole v) (vec m)
      not_before = elim (le_or_lt (pos 0) (det (whole u) (whole v) (vec m))) as (λ _. pos 0 ≤ℤ det (whole u) (whole v) (vec m)) [
        | inl h ↦ h
        | inr h ↦ absurd (not_both r s m (stretch_after r s t m in_order on) (turn_before r u v s m at_s.parts at_s.on at_s.zero zero (subst (λ (x : ℤ). x <ℤ pos 0) (sym (turn_at_is u v m)) h)))
      ]

      not_behind : det (whole y) (whole z) (vec m) ≤ℤ pos 0
      not_behind = elim (le_or_lt (det (whole y) (whole z) (vec m)) (pos 0)) as (λ _. det (whole y) (whole z) (vec m) ≤ℤ pos 0) [
        | inl h ↦ h
        | inr h ↦ absurd (not_both r m t (stretch_before r s t m in_order on) (turn_behind r y z t m at_t.parts at_t.on at_t.zero zero (subst (λ (x : ℤ). pos 0 <ℤ x) (sym (turn_at_is y z m)) h)))
      ]
