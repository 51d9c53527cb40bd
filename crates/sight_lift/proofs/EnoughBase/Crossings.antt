-- Where a line crosses portals: the crossing with a way out of a triangle is later than that with the way in.
use Rattle.std.proofs.Common.{◌≡◌, ℤ, pos, ◌+ℤ◌, ◌-ℤ◌, ◌*ℤ◌, neg_ℤ, ◌<ℤ◌, arith, subst, [], ◌∷◌}
use Rattle.std.proofs.lemmas.Int.{ints}
use Rattle.math_base.proofs.Quoting.{quoting, by_ring}
use Rattle.sight_names.specs.declared.names.Pt.{Pt}
use Rattle.sight_names.specs.Point.{point_of, value_at, turn_at}
use Rattle.sight_names.specs.Splitting.{EndPoints, IsParted}
use Rattle.plane_base.specs.Arrows.{Arrow, dot, arrow_difference}
use Rattle.plane_base.proofs.Vec.{V, Lin, at}
use Rattle.mesh_base.proofs.SightLaws.Bridge.{value_at_is, turn_at_is}
use Rattle.mesh_base.proofs.SightLaws.Places.{norm, Before}
use Rattle.mesh_base.proofs.SightLaws.Crossings.{crossing, crossing_on, before_chain, norm_above, later_left, later_right}
use Rattle.mesh_base.proofs.Joined.{whole}

abbrev pub arrow_to : Pt → Arrow
arrow_to p = record { x = p.x; y = p.y }

gap_ring : (a b c lx ly rx ry : ℤ) → (a *ℤ lx +ℤ b *ℤ ly +ℤ c *ℤ pos 1) -ℤ (a *ℤ rx +ℤ b *ℤ ry +ℤ c *ℤ pos 1) ≡ a *ℤ (lx -ℤ rx) +ℤ b *ℤ (ly -ℤ ry)
gap_ring a b c lx ly rx ry = by_ring (a ∷ b ∷ c ∷ lx ∷ ly ∷ rx ∷ ry ∷ []) _ _ (search quoting depth 40 fits 100000) (search quoting depth 40 fits 100000) tt

module _ (a b c : ℤ) where
  abbrev pub normal : Arrow
  normal = record { x = a; y = b }

  abbrev value : Pt → ℤ
  value p = value_at a b c (point_of p)

  -- what the line says of two points, by the arrow from the one to the other
  gap : (p q : Pt) → value p -ℤ value q ≡ dot normal (arrow_difference (arrow_to p) (arrow_to q))
  unfolding dot
  gap p q = gap_ring a b c p.x p.y q.x q.y

  -- a left end is ahead of each right end along the normal
  pub ahead : (e f : EndPoints) → IsParted a b c e → IsParted a b c f → pos 0 <ℤ dot normal (arrow_difference (arrow_to e.left) (arrow_to f.right))
  ahead e f h k = let g = gap e.left f.right in let l = h.0 in let r = k.1 in omega (arith, ints)

  abbrev pub line : Lin
  line = record { a = a; b = b; c = c }

  -- where the line crosses a portal
  abbrev pub cross : EndPoints → V
  cross e = crossing line (whole e.left) (whole e.right)

  left_value : (e : EndPoints) → IsParted a b c e → pos 0 <ℤ at line (whole e.left)
  left_value e h = subst (λ (k : ℤ). pos 0 <ℤ k) (value_at_is a b c (point_of e.left)) h.0

  right_value : (e : EndPoints) → IsParted a b c e → at line (whole e.right) <ℤ pos 0
  right_value e h = subst (λ (k : ℤ). k <ℤ pos 0) (value_at_is a b c (point_of e.right)) h.1

  pub wide : (e : EndPoints) → IsParted a b c e → pos 0 <ℤ (cross e).d
  wide e h = plain (at line (whole e.left)) (at line (whole e.right)) (left_value e h) (right_value e h)
    where
      plain : (x y : ℤ) → pos 0 <ℤ x → y <ℤ pos 0 → pos 0 <ℤ (neg_ℤ y *ℤ pos 1 +ℤ x *ℤ pos 1)
      plain x y h k = omega (arith, ints)

  -- f is crossed later than e
  abbrev pub Later : EndPoints → EndPoints → Type 0
  Later e f = Before line (cross e) (cross f)

  pub never_later : (e : EndPoints) → Later e e → ⊥
  never_later e h = omega (arith, ints)

  pub later_trans : (e f g : EndPoints) → pos 0 <ℤ (cross e).d → pos 0 <ℤ (cross f).d → pos 0 <ℤ (cross g).d → Later e f → Later f g → Later e g
  later_trans e f g he hf hg h k = before_chain line (cross e) (cross f) (cross g) he hf hg h k

  direction : (e : EndPoints) → IsParted a b c e → pos 0 <ℤ norm line
  direction e h = norm_above line (cross e) (whole e.left) (wide e h) (crossing_on line (whole e.left) (whole e.right)) (λ z. let k = left_value e h in omega (arith, ints, z, k))

  -- ---- the two ways out of a triangle

  pub crossed_left : (u v w : Pt) → pos 0 <ℤ turn_at u v (point_of w) → IsParted a b c (record { left = u; right = v }) → Later (record { left = u; right = v }) (record { left = u; right = w })
  crossed_left u v w t h = later_left line (whole u) (whole v) (whole w) (direction (record { left = u; right = v }) h) (subst (λ (k : ℤ). pos 0 <ℤ k) (turn_at_is u v (point_of w)) t) (left_value (record { left = u; right = v }) h)

  pub crossed_right : (u v w : Pt) → pos 0 <ℤ turn_at u v (point_of w) → IsParted a b c (record { left = u; right = v }) → Later (record { left = u; right = v }) (record { left = w; right = v })
  crossed_right u v w t h = later_right line (whole u) (whole v) (whole w) (direction (record { left = u; right = v }) h) (subst (λ (k : ℤ). pos 0 <ℤ k) (turn_at_is u v (point_of w)) t) (right_value (record { left = u; right = v }) h)
