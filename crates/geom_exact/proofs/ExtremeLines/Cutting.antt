-- The line in the middle of a cone cuts between the ends.
use Rattle.std.proofs.Common.{◌≡◌, ◌≤◌, ◌^◌, ℤ, pos, negsuc, ◌+ℤ◌, ◌*ℤ◌, nat_abs, arith, ◌≤ℤ◌, ◌<ℤ◌}
use Rattle.std.proofs.lemmas.Int.{ints}
use Rattle.sight_names.specs.declared.names.Pt.{Pt}
use Rattle.sight_names.specs.Point.{point_of, value_at}
use Rattle.plane_base.specs.Arrows.{cross, dot}
use Rattle.plane_base.proofs.Middle.{left_near, left_any, right_any, right_below, ray_left, ray_right}
use Rattle.geom_exact.specs.ExtremeLines.Differences.{arrow_to, difference}
use Rattle.geom_exact.specs.ExtremeLines.Spans.{arrow_of, Spans, middle_at, IsCutOf}
use Rattle.geom_exact.specs.declared.extreme_lines.extreme.Extreme.{Extreme}
use Rattle.geom_exact.specs.declared.extreme_lines.wedge.Wedge.{Wedge}
use Rattle.geom_exact.specs.declared.extreme_lines.cone.Cone.TheVariants.{Ray, Open}

above_less : (v m : ℤ) → v ≡ pos 2 *ℤ m +ℤ negsuc 0 → pos 0 <ℤ m → pos 0 <ℤ v
above_less v m e h = omega (arith, ints)

below_less : (v m : ℤ) → v ≡ pos 2 *ℤ m +ℤ negsuc 0 → m ≤ℤ pos 0 → v <ℤ pos 0
below_less v m e h = omega (arith, ints)

pub above_more : (v m : ℤ) → v ≡ pos 2 *ℤ m +ℤ pos 1 → pos 0 ≤ℤ m → pos 0 <ℤ v
above_more v m e h = omega (arith, ints)

pub below_more : (v m : ℤ) → v ≡ pos 2 *ℤ m +ℤ pos 1 → m <ℤ pos 0 → v <ℤ pos 0
below_more v m e h = omega (arith, ints)

module _ (w : Wedge) (a b c : ℤ) where
  pub cut_near : cross (arrow_of w.second) (difference w.first.right.at w.second.right.at) ≡ pos 0 → ((p : Pt) → value_at a b c (point_of p) ≡ pos 2 *ℤ middle_at w p +ℤ negsuc 0)
      → nat_abs a ≤ 2 ^ 30 → nat_abs b ≤ 2 ^ 30 → nat_abs c ≤ 2 ^ 57 → IsCutOf (Open w) a b c
  cut_near z e ha hb hc = record {
    left = λ p h k. above_less (value_at a b c (point_of p)) (middle_at w p) (e p) (left_near (arrow_to w.first.left.at) (arrow_to w.first.right.at) (arrow_to w.second.left.at) (arrow_to w.second.right.at) (arrow_to p) w.first.long w.spread z h);
    right = λ p h k. below_less (value_at a b c (point_of p)) (middle_at w p) (e p) (right_any (arrow_to w.first.left.at) (arrow_to w.first.right.at) (arrow_to w.second.left.at) (arrow_to w.second.right.at) (arrow_to p) h k);
    a_in = ha;
    b_in = hb;
    c_in = hc;
  }

  pub cut_away : ¬ (cross (arrow_of w.second) (difference w.first.right.at w.second.right.at) ≡ pos 0) → Spans (Open w) (difference w.second.left.at w.first.right.at) → ((p : Pt) → value_at a b c (point_of p) ≡ pos 2 *ℤ middle_at w p +ℤ pos 1)
      → nat_abs a ≤ 2 ^ 30 → nat_abs b ≤ 2 ^ 30 → nat_abs c ≤ 2 ^ 57 → IsCutOf (Open w) a b c
  cut_away n s e ha hb hc = record {
    left = λ p h k. above_more (value_at a b c (point_of p)) (middle_at w p) (e p) (left_any (arrow_to w.first.left.at) (arrow_to w.first.right.at) (arrow_to w.second.left.at) (arrow_to w.second.right.at) (arrow_to p) h k);
    right = λ p h k. below_more (value_at a b c (point_of p)) (middle_at w p) (e p) (right_below (arrow_to w.first.left.at) (arrow_to w.first.right.at) (arrow_to w.second.left.at) (arrow_to w.second.right.at) (arrow_to p) w.first.long w.spread n s h k);
    a_in = ha;
    b_in = hb;
    c_in = hc;
  }

pub cut_ray : (r : Extreme) (a b c : ℤ) → ((p : Pt) → value_at a b c (point_of p) ≡ pos 2 *ℤ dot (arrow_of r) (difference p r.left.at) +ℤ pos 1) → nat_abs a ≤ 2 ^ 30 → nat_abs b ≤ 2 ^ 30 → nat_abs c ≤ 2 ^ 57 → IsCutOf (Ray r) a b c
cut_ray r a b c e ha hb hc = record {
  left = λ p h k. above_more (value_at a b c (point_of p)) (dot (arrow_of r) (difference p r.left.at)) (e p) (ray_left (arrow_to r.left.at) (arrow_to r.right.at) (arrow_to p) h);
  right = λ p h k. below_more (value_at a b c (point_of p)) (dot (arrow_of r) (difference p r.left.at)) (e p) (ray_right (arrow_to r.left.at) (arrow_to r.right.at) (arrow_to p) r.long h);
  a_in = ha;
  b_in = hb;
  c_in = hc;
}
