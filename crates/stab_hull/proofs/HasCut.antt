-- A cone of ends has a line that cuts between them.
use Rattle.std.proofs.Common.{◌≡◌, ◌≤◌, ◌^◌, ℤ, pos, negsuc, zero, suc, ◌+ℤ◌, ◌-ℤ◌, ◌*ℤ◌, nat_abs, arith, ◌<ℤ◌, ◌⊎◌, inl, inr, refl}
use Rattle.std.proofs.lemmas.Int.{ints}
use Rattle.sight_names.specs.declared.names.Pt.{Pt}
use Rattle.sight_names.specs.Point.{point_of, value_at}
use Rattle.plane_base.specs.Arrows.{cross, dot}
use Rattle.plane_base.proofs.Middle.{ray_left, ray_right}
use Rattle.geom_exact.specs.ExtremeLines.Differences.{arrow_to, difference}
use Rattle.geom_exact.specs.ExtremeLines.Spans.{arrow_of, form_at, Spans, first_extreme, second_of, middle_at, IsCutOf}
use Rattle.geom_exact.specs.declared.extreme_lines.extreme.Extreme.{Extreme}
use Rattle.geom_exact.specs.declared.extreme_lines.wedge.Wedge.{Wedge}
use Rattle.geom_exact.specs.declared.extreme_lines.cone.Cone.{Cone}
use Rattle.geom_exact.specs.declared.extreme_lines.cone.Cone.TheVariants.{Ray, Open}
use Rattle.geom_exact.proofs.ExtremeLines.Values.{value_is, middle_is, ray_is}
use Rattle.geom_exact.proofs.ExtremeLines.Cutting.{cut_near, cut_away, above_more as above, below_more as below}

-- what a cut of the cone says of ends, whatever its range
pub record Cuts (cone : Cone) (a b c : ℤ) : Type 0 where
  pub left : (p : Pt) → Spans cone (difference p (first_extreme cone).right.at) → Spans cone (difference p (second_of cone).right.at) → pos 0 <ℤ value_at a b c (point_of p)
  pub right : (p : Pt) → Spans cone (difference (first_extreme cone).left.at p) → Spans cone (difference (second_of cone).left.at p) → value_at a b c (point_of p) <ℤ pos 0

abbrev pub HasCut : Cone → Type 0
HasCut cone = (a : ℤ) × (b : ℤ) × (c : ℤ) × Cuts cone a b c

cuts : (k : Cone) (a b c : ℤ) → IsCutOf k a b c → HasCut k
cuts k a b c h = (a, b, c, record { left = h.left; right = h.right })

is_zero : (z : ℤ) → (z ≡ pos 0) ⊎ (¬ (z ≡ pos 0))
is_zero (pos zero) = inl refl
is_zero (pos (suc n)) = inr (λ e. omega (arith, ints))
is_zero (negsuc n) = inr (λ e. omega (arith, ints))

twice_small : (x y : ℤ) → nat_abs x ≤ 2 ^ 26 → nat_abs y ≤ 2 ^ 26 → nat_abs (pos 2 *ℤ (x -ℤ y)) ≤ 2 ^ 30
twice_small x y h k = omega (arith, ints)

shifted_small : (x y s : ℤ) → nat_abs x ≤ 2 ^ 52 → nat_abs y ≤ 2 ^ 52 → nat_abs s ≤ 1 → nat_abs (pos 2 *ℤ (x -ℤ y) +ℤ s) ≤ 2 ^ 57
shifted_small x y s h k l = omega (arith, ints)

form_is : (e : Extreme) (p : Pt) → (e.a *ℤ p.x +ℤ e.b *ℤ p.y) -ℤ e.c ≡ form_at e p
form_is e p = value_is e.left.at e.right.at p e.a e.b e.c e.a_is e.b_is e.c_is

module _ (w : Wedge) where
  middle : (s : ℤ) (p : Pt) → value_at (pos 2 *ℤ (w.first.a -ℤ w.second.a)) (pos 2 *ℤ (w.first.b -ℤ w.second.b)) (pos 2 *ℤ (w.second.c -ℤ w.first.c) +ℤ s) (point_of p) ≡ pos 2 *ℤ middle_at w p +ℤ s
  middle s p = middle_is (pos 2 *ℤ (w.first.a -ℤ w.second.a)) (pos 2 *ℤ (w.first.b -ℤ w.second.b)) (pos 2 *ℤ (w.second.c -ℤ w.first.c) +ℤ s) w.first.a w.first.b w.first.c w.second.a w.second.b w.second.c s (form_at w.first p) (form_at w.second p) p refl refl refl (form_is w.first p) (form_is w.second p)

  wedge_has : Spans (Open w) (difference w.second.left.at w.first.right.at) → HasCut (Open w)
  wedge_has k = which (is_zero (cross (arrow_of w.second) (difference w.first.right.at w.second.right.at)))
    where
      a : ℤ
      a = pos 2 *ℤ (w.first.a -ℤ w.second.a)

      b : ℤ
      b = pos 2 *ℤ (w.first.b -ℤ w.second.b)

      c : ℤ → ℤ
      c s = pos 2 *ℤ (w.second.c -ℤ w.first.c) +ℤ s

      which : (cross (arrow_of w.second) (difference w.first.right.at w.second.right.at) ≡ pos 0) ⊎ (¬ (cross (arrow_of w.second) (difference w.first.right.at w.second.right.at) ≡ pos 0)) → HasCut (Open w)
      which (inl z) = cuts (Open w) a b (c (negsuc 0)) (cut_near w a b (c (negsuc 0)) z (middle (negsuc 0)) (twice_small w.first.a w.second.a w.first.a_small w.second.a_small) (twice_small w.first.b w.second.b w.first.b_small w.second.b_small) (shifted_small w.second.c w.first.c (negsuc 0) w.second.c_small w.first.c_small (omega arith)))
      which (inr n) = cuts (Open w) a b (c (pos 1)) (cut_away w a b (c (pos 1)) n k (middle (pos 1)) (twice_small w.first.a w.second.a w.first.a_small w.second.a_small) (twice_small w.first.b w.second.b w.first.b_small w.second.b_small) (shifted_small w.second.c w.first.c (pos 1) w.second.c_small w.first.c_small (omega arith)))

pub has_cut : (k : Cone) → Spans k (difference (second_of k).left.at (first_extreme k).right.at) → HasCut k
has_cut (Open w) h = wedge_has w h
has_cut (Ray r) h = (
  a,
  b,
  c,
  record {
    left = λ p i j. above (value_at a b c (point_of p)) (dot (arrow_of r) (difference p r.left.at)) (across p) (ray_left (arrow_to r.left.at) (arrow_to r.right.at) (arrow_to p) i);
    right = λ p i j. below (value_at a b c (point_of p)) (dot (arrow_of r) (difference p r.left.at)) (across p) (ray_right (arrow_to r.left.at) (arrow_to r.right.at) (arrow_to p) r.long i);
  },
)
  where
    a : ℤ
    a = pos 2 *ℤ (r.b -ℤ pos 0)

    b : ℤ
    b = pos 2 *ℤ (pos 0 -ℤ r.a)

    c : ℤ
    c = pos 2 *ℤ (pos 0 -ℤ (r.b *ℤ r.left.at.x +ℤ (pos 0 -ℤ r.a) *ℤ r.left.at.y)) +ℤ pos 1

    across : (p : Pt) → value_at a b c (point_of p) ≡ pos 2 *ℤ dot (arrow_of r) (difference p r.left.at) +ℤ pos 1
    across p = ray_is r.left.at r.right.at p a b c r.a r.b (r.b *ℤ r.left.at.x +ℤ (pos 0 -ℤ r.a) *ℤ r.left.at.y) r.a_is r.b_is refl refl refl refl
