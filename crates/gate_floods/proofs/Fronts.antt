-- Where a line crosses one portal and then another: an end of the later one is in front, and an end of the earlier one in the back.
use Rattle.std.proofs.Common.{◌≡◌, ℕ, ℤ, pos, ◌+ℤ◌, ◌*ℤ◌, neg_ℤ, ◌<ℤ◌, ◌⊎◌, inl, inr, List, arith, sym, subst}
use Rattle.std.proofs.lemmas.Int.{ints}
use lib.IntN.{*ℤ-zero}
use Rattle.math_base.proofs.Signs.{mul-le, le_or_lt}
use Rattle.sight_names.specs.declared.names.Pt.{Pt}
use Rattle.sight_names.specs.declared.names.Triangle.{Triangle}
use Rattle.sight_names.specs.Point.{point_of, turn_at}
use Rattle.sight_names.specs.Splitting.{EndPoints, IsParted}
use Rattle.sight_names.specs.Map.{Map}
use Rattle.sight_names.specs.Points.{place}
use Rattle.sight_names.specs.Sequence.{Portal, Way, Left, Right, way_out}
use Rattle.plane_base.proofs.Vec.{Lin, at, edge, det, det-swap}
use Rattle.mesh_base.proofs.SightLaws.Bridge.{value_at_is, turn_at_is}
use Rattle.mesh_base.proofs.SightLaws.Places.{norm}
use Rattle.mesh_base.proofs.SightLaws.Crossings.{crossing_on, at_crossing, norm_above, turn_pos, before_turn}
use Rattle.mesh_base.proofs.Joined.{whole}
use Rattle.sight_lift.proofs.EnoughBase.Crossings.{line, cross, wide, Later, later_trans, crossed_left, crossed_right}
use Rattle.sight_lift.proofs.Behind.{Behind}
use Rattle.sight_lift.proofs.Tails.{IsCrossed}
use Rattle.gate_floods.specs.Gates.{MayFollow}

-- of two numbers whose sum, weighed with numbers above 0, is above 0, one is above 0
one_above : (k l x y : ℤ) → pos 0 <ℤ k → pos 0 <ℤ l → pos 0 <ℤ (k *ℤ x +ℤ l *ℤ y) → (pos 0 <ℤ x) ⊎ (pos 0 <ℤ y)
one_above k l x y hk hl h = elim (le_or_lt x (pos 0)) as (λ _. (pos 0 <ℤ x) ⊎ (pos 0 <ℤ y)) [
  | inr above ↦ inl above
  | inl low ↦ elim (le_or_lt y (pos 0)) as (λ _. (pos 0 <ℤ x) ⊎ (pos 0 <ℤ y)) [
    | inr above ↦ inr above
    | inl low_too ↦
        let i = mul-le k x (pos 0) (omega (arith, ints, hk)) low in
        let j = mul-le l y (pos 0) (omega (arith, ints, hl)) low_too in
        let d = *ℤ-zero k in
        let e = *ℤ-zero l in
        absurd (omega (arith, ints, i, j, d, e, h))
  ]
]

module _ (a b c : ℤ) where
  left_value : (e : EndPoints) → IsParted a b c e → pos 0 <ℤ at (line a b c) (whole e.left)
  left_value e h = subst (λ (k : ℤ). pos 0 <ℤ k) (value_at_is a b c (point_of e.left)) h.0

  right_value : (e : EndPoints) → IsParted a b c e → at (line a b c) (whole e.right) <ℤ pos 0
  right_value e h = subst (λ (k : ℤ). k <ℤ pos 0) (value_at_is a b c (point_of e.right)) h.1

  direction : (e : EndPoints) → IsParted a b c e → pos 0 <ℤ norm (line a b c)
  direction e h = norm_above (line a b c) (cross a b c e) (whole e.left) (wide a b c e h) (crossing_on (line a b c) (whole e.left) (whole e.right)) (λ z. let k = left_value e h in omega (arith, ints, z, k))

  -- a functional that is above 0 where the portal is crossed is so at one of its ends
  above_at_end : (f : Lin) (e : EndPoints) → IsParted a b c e → pos 0 <ℤ at f (cross a b c e) → (pos 0 <ℤ at f (whole e.left)) ⊎ (pos 0 <ℤ at f (whole e.right))
  above_at_end f e h above =
      let r = right_value e h in
      one_above (neg_ℤ (at (line a b c) (whole e.right))) (at (line a b c) (whole e.left)) (at f (whole e.left)) (at f (whole e.right)) (omega (arith, ints, r)) (left_value e h)
      (subst (λ (k : ℤ). pos 0 <ℤ k) (at_crossing f (line a b c) (whole e.left) (whole e.right)) above)

  turned : (p q r : Pt) → pos 0 <ℤ det (whole p) (whole q) (whole r) → pos 0 <ℤ turn_at p q (point_of r)
  turned p q r h = subst (λ (k : ℤ). pos 0 <ℤ k) (sym (turn_at_is p q (point_of r))) h

  turned_back : (p q r : Pt) → pos 0 <ℤ det (whole q) (whole p) (whole r) → turn_at p q (point_of r) <ℤ pos 0
  turned_back p q r h =
      let e = det-swap (whole q) (whole p) (whole r) in
      let t : det (whole p) (whole q) (whole r) <ℤ pos 0 = omega (arith, ints, e, h) in
      subst (λ (k : ℤ). k <ℤ pos 0) (sym (turn_at_is p q (point_of r))) t

  pub ends_in_front : (e f : EndPoints) → IsParted a b c e → IsParted a b c f → Later a b c e f → (pos 0 <ℤ turn_at e.left e.right (point_of f.left)) ⊎ (pos 0 <ℤ turn_at e.left e.right (point_of f.right))
  ends_in_front e f he hf later =
      elim (above_at_end (edge (whole e.left) (whole e.right)) f hf (turn_pos (line a b c) (whole e.left) (whole e.right) (cross a b c f) (direction e he) (crossing_on (line a b c) (whole f.left) (whole f.right)) later))
      as (λ _. (pos 0 <ℤ turn_at e.left e.right (point_of f.left)) ⊎ (pos 0 <ℤ turn_at e.left e.right (point_of f.right))) [
        | inl h ↦ inl (turned e.left e.right f.left h)
        | inr h ↦ inr (turned e.left e.right f.right h)
      ]

  pub ends_in_back : (e f : EndPoints) → IsParted a b c e → IsParted a b c f → Later a b c e f → (turn_at f.left f.right (point_of e.left) <ℤ pos 0) ⊎ (turn_at f.left f.right (point_of e.right) <ℤ pos 0)
  ends_in_back e f he hf later =
      elim (above_at_end (edge (whole f.right) (whole f.left)) e he (before_turn (line a b c) (whole f.left) (whole f.right) (cross a b c e) (direction e he) (crossing_on (line a b c) (whole e.left) (whole e.right)) later))
      as (λ _. (turn_at f.left f.right (point_of e.left) <ℤ pos 0) ⊎ (turn_at f.left f.right (point_of e.right) <ℤ pos 0)) [
        | inl h ↦ inl (turned_back f.left f.right e.left h)
        | inr h ↦ inr (turned_back f.left f.right e.right h)
      ]

-- ---- portals

abbrev pub ends_at : Map → Portal → EndPoints
ends_at m p = record { left = place m p.left; right = place m p.right }

-- the line crosses q later than p
abbrev pub IsLater : Map → ℤ → ℤ → ℤ → Portal → Portal → Type 0
IsLater m x y z p q = Later x y z (ends_at m p) (ends_at m q)

module _ (m : Map) (x y z : ℤ) where
  pub may_follow : (p q : Portal) → IsCrossed m x y z p → IsCrossed m x y z q → IsLater m x y z p q → MayFollow m p q
  may_follow p q hp hq later = record { in_front = ends_in_front x y z (ends_at m p) (ends_at m q) hp hq later; in_back = ends_in_back x y z (ends_at m p) (ends_at m q) hp hq later }

  -- the ways out of the triangle behind a portal are crossed later
  pub way_later : (ts : List Triangle) (p : Portal) (k t : ℕ) (w : Way) → Behind m ts p k t → IsCrossed m x y z p → IsLater m x y z p (way_out p w t)
  way_later ts p k t Left h crossed = crossed_left x y z (place m p.left) (place m p.right) (place m t) (turned x y z (place m p.left) (place m p.right) (place m t) h.turn) crossed
  way_later ts p k t Right h crossed = crossed_right x y z (place m p.left) (place m p.right) (place m t) (turned x y z (place m p.left) (place m p.right) (place m t) h.turn) crossed

  -- p is the first portal, or crossed later
  abbrev pub IsFrom : Portal → Portal → Type 0
  IsFrom first p = (first ≡ p) ⊎ IsLater m x y z first p

  pub later_on : (first p q : Portal) → IsCrossed m x y z first → IsCrossed m x y z p → IsCrossed m x y z q → IsFrom first p → IsLater m x y z p q → IsLater m x y z first q
  later_on first p q hf hp hq (inl same) later = subst (λ (r : Portal). IsLater m x y z r q) (sym same) later
  later_on first p q hf hp hq (inr before) later = later_trans x y z (ends_at m first) (ends_at m p) (ends_at m q) (wide x y z (ends_at m first) hf) (wide x y z (ends_at m p) hp) (wide x y z (ends_at m q) hq) before later
