-- What the two extreme lines say of a new end tells what it does to them.
use Rattle.std.proofs.Common.{List, [], ◌∷◌, ◌++◌, pos, ◌≤ℤ◌, ◌<ℤ◌, arith, subst, sym, ◌≡◌}
use Rattle.std.proofs.lemmas.Int.{ints}
use Rattle.sight_names.specs.declared.names.EndAt.{EndAt}
use Rattle.sight_names.specs.declared.names.EndPair.{EndPair}
use Rattle.plane_base.proofs.Middle as middle
use Rattle.geom_exact.specs.declared.extreme_lines.cone.Cone.{Cone}
use Rattle.geom_exact.specs.declared.extreme_lines.cone.Cone.TheVariants.{Open}
use Rattle.geom_exact.specs.declared.extreme_lines.wedge.Wedge.{Wedge}
use Rattle.geom_exact.specs.ExtremeLines.Differences.{arrow_to}
use Rattle.geom_exact.specs.ExtremeLines.Spans.{form_at, three_pairs}
use Rattle.geom_exact.proofs.ExtremeLines.Widening.{wedge_meets}
use Rattle.stab_hull.specs.Stacks.{IsConeOfEnds, AreStuckAmong}
use Rattle.stab_hull.proofs.StepLemmas.{left_outside, right_outside, left_meets, right_meets}
use Rattle.stab_hull.proofs.OneLine.{turn_is, form_left, form_right}

module _ (L R : List EndAt) (end : EndAt) (c : Cone) (w : Wedge) (is : c ≡ Open w) where
  -- ---- a new right end
  -- right of both lines: nothing moves
  pub right_same : form_at w.first end.at <ℤ pos 0 → pos 0 <ℤ form_at w.second end.at → IsConeOfEnds L R c → IsConeOfEnds L (R ++ end ∷ []) c
  right_same h k m = subst (λ (d : Cone). IsConeOfEnds L (R ++ end ∷ []) d) (sym is) (right_outside L R end (Open w)
      (λ l a b. middle.right_outside (arrow_to w.first.left.at) (arrow_to w.first.right.at) (arrow_to w.second.left.at) (arrow_to w.second.right.at) (arrow_to l) (arrow_to end.at) h k a b) (subst (λ (d : Cone). IsConeOfEnds L R d) is m))

  -- not right of the first, and no farther right of the second than the left end of the first: no line splits it from that end
  pub right_no_line : (pairs : List EndPair) → pos 0 ≤ℤ form_at w.first end.at → form_at w.second end.at ≤ℤ form_at w.second w.first.left.at → pairs ≡ three_pairs c w.first.left end → IsConeOfEnds L R c → AreStuckAmong L (R ++ end ∷ []) pairs
  right_no_line pairs h k e m =
      let n = subst (λ (d : Cone). IsConeOfEnds L R d) is m in
      let a = turn_is w.first w.first.left.at end.at in
      let b = turn_is w.second w.first.left.at end.at in
      let z = form_left w.first in
      right_meets L R end (Open w) w.first.left pairs n n.ends.first.0 (subst (λ (d : Cone). pairs ≡ three_pairs d w.first.left end) is e) (wedge_meets w w.first.left end (omega (arith, ints)) (omega (arith, ints)))

  -- ---- a new left end
  pub left_same : pos 0 <ℤ form_at w.first end.at → form_at w.second end.at <ℤ pos 0 → IsConeOfEnds L R c → IsConeOfEnds (L ++ end ∷ []) R c
  left_same h k m = subst (λ (d : Cone). IsConeOfEnds (L ++ end ∷ []) R d) (sym is) (left_outside L R end (Open w)
      (λ r a b. middle.left_outside (arrow_to w.first.left.at) (arrow_to w.first.right.at) (arrow_to w.second.left.at) (arrow_to w.second.right.at) (arrow_to end.at) (arrow_to r) h k a b) (subst (λ (d : Cone). IsConeOfEnds L R d) is m))

  pub left_no_line : (pairs : List EndPair) → pos 0 ≤ℤ form_at w.second end.at → form_at w.first end.at ≤ℤ form_at w.first w.second.right.at → pairs ≡ three_pairs c end w.second.right → IsConeOfEnds L R c → AreStuckAmong (L ++ end ∷ []) R pairs
  left_no_line pairs h k e m =
      let n = subst (λ (d : Cone). IsConeOfEnds L R d) is m in
      let a = turn_is w.first end.at w.second.right.at in
      let b = turn_is w.second end.at w.second.right.at in
      let z = form_right w.second in
      left_meets L R end (Open w) w.second.right pairs n n.ends.second.1 (subst (λ (d : Cone). pairs ≡ three_pairs d end w.second.right) is e) (wedge_meets w end w.second.right (omega (arith, ints)) (omega (arith, ints)))
