-- The search over all ends for those that a line may move to: what it says of each is told by one value, without its constant.
use Rattle.std.proofs.Common.{◌≡◌, ℕ, ◌-◌, ◌<◌, ◌≤◌, ◌^◌, List, ◌∷◌, [], ◌++◌, Some, ℤ, nat_abs, pos, ◌+ℤ◌, ◌-ℤ◌, ◌*ℤ◌, ◌<ℤ◌, ap₂, sym, ◌∙◌, subst, arith, FitsSigned, w64, to_z, of_z}
use Rattle.std.specs.Prelude.{slice_get}
use Rattle.std.proofs.lemmas.Int.{ints}
use Rattle.sight_names.specs.declared.names.Pt.{Pt}
use Rattle.sight_names.specs.declared.names.EndAt.{EndAt}
use Rattle.plane_base.specs.Arrows.{cross}
use Rattle.geom_exact.specs.declared.extreme_lines.extreme.Extreme.{Extreme}
use Rattle.geom_exact.specs.declared.extreme_lines.wedge.Wedge.{Wedge}
use Rattle.geom_exact.specs.declared.extreme_lines.cone.Cone.TheVariants.{Open}
use Rattle.geom_exact.specs.ExtremeLines.Differences.{difference}
use Rattle.geom_exact.specs.ExtremeLines.Spans.{arrow_of, form_at, IsWidened}
use Rattle.geom_exact.proofs.ExtremeLines.Values.{value_is}
use Rattle.geom_exact.proofs.ExtremeLines.Widening.{within_both, stays}
use Rattle.stab_hull.specs.declared.chain.Kept.{Kept}
use Rattle.stab_hull.specs.declared.slope.Slope.{Slope}
use Rattle.stab_hull.specs.Chains.{HasChainSteps, kept_ends}
use Rattle.stab_hull.specs.Stacks.{IsConeOfEnds}
use Rattle.stab_hull.proofs.OneLine.{held, turn_is, beyond_first_right, beyond_second_left}
use Rattle.stab_hull.proofs.StepLemmas.{From, IsLeftPart, IsRightPart, left_whole, right_whole}
use Rattle.stab_hull.proofs.Looking.{LooksBack, IsNext, next_at, look_on, left_back, right_back}

-- the factors are those of the line
pub record IsSlopeOf (e : Extreme) (s : Slope) : Type 0 where
  pub a : s.a ≡ e.a
  pub b : s.b ≡ e.b

-- the value is that of the line at the point, and its constant
pub record IsLevelAt (e : Extreme) (p : Pt) (v : ℤ) : Type 0 where
  pub level : v ≡ form_at e p +ℤ e.c
  pub small : nat_abs v ≤ 2 ^ 52

moved : (v t c u : ℤ) → v ≡ t → t -ℤ c ≡ u → v ≡ u +ℤ c
moved v t c u h k = omega (arith, ints)

pub level_at : (e : Extreme) (s : Slope) (p : Pt) (v : ℤ) → IsSlopeOf e s → v ≡ s.a *ℤ p.x +ℤ s.b *ℤ p.y → nat_abs v ≤ 2 ^ 52 → IsLevelAt e p v
level_at e s p v h is small = record {
  level = moved v (e.a *ℤ p.x +ℤ e.b *ℤ p.y) e.c (form_at e p) (is ∙ ap₂ (λ (x y : ℤ). x *ℤ p.x +ℤ y *ℤ p.y) h.a h.b) (value_is e.left.at e.right.at p e.a e.b e.c e.a_is e.b_is e.c_is);
  small = small;
}

-- a value that was kept in a variable
pub kept_level : (e : Extreme) (p : Pt) (v : ℤ) → IsLevelAt e p v → IsLevelAt e p (to_z w64 (of_z w64 v))
kept_level e p v h = subst (IsLevelAt e p) (sym (held v (wider v h.small))) h
  where
    wider : (v : ℤ) → nat_abs v ≤ 2 ^ 52 → nat_abs v ≤ 2 ^ 53
    wider v h = omega arith

-- an end of the line itself has the constant alone
constant : (v : ℤ) (c : ℤ) → v ≡ pos 0 → c ≡ v +ℤ c
constant v c h = omega (arith, ints)

pub level_on : (e : Extreme) (p : Pt) → pos 0 ≡ form_at e p → IsLevelAt e p (to_z w64 (of_z w64 e.c))
level_on e p h = kept_level e p e.c (record { level = constant (form_at e p) e.c (sym h); small = e.c_small })

turned : (u v c x y t : ℤ) → u ≡ x +ℤ c → v ≡ y +ℤ c → t ≡ x -ℤ y → u -ℤ v ≡ t
turned u v c x y t h k l = omega (arith, ints)

-- the difference of two is the line's turn
-- the difference of two fits
pub apart_fits : (e : Extreme) (l r : Pt) (u v : ℤ) → IsLevelAt e l u → IsLevelAt e r v → FitsSigned w64 (u -ℤ v)
apart_fits e l r u v h k = fits u v h.small k.small
  where
    fits : (u v : ℤ) → nat_abs u ≤ 2 ^ 52 → nat_abs v ≤ 2 ^ 52 → FitsSigned w64 (u -ℤ v)
    fits u v a b = omega (arith, ints)

pub turn_by : (e : Extreme) (l r : Pt) (u v : ℤ) → IsLevelAt e l u → IsLevelAt e r v → to_z w64 (of_z w64 (u -ℤ v)) ≡ cross (arrow_of e) (difference l r)
turn_by e l r u v h k = held (u -ℤ v) (apart u v h.small k.small) ∙ turned u v e.c (form_at e l) (form_at e r) (cross (arrow_of e) (difference l r)) h.level k.level (turn_is e l r)
  where
    apart : (u v : ℤ) → nat_abs u ≤ 2 ^ 52 → nat_abs v ≤ 2 ^ 52 → nat_abs (u -ℤ v) ≤ 2 ^ 53
    apart u v h k = omega (arith, ints)

lower : (u v c x y t : ℤ) → u ≡ x +ℤ c → v ≡ y +ℤ c → t ≡ x -ℤ y → u <ℤ v → t <ℤ pos 0
lower u v c x y t h k l m = omega (arith, ints)

higher : (u v c x y t : ℤ) → u ≡ x +ℤ c → v ≡ y +ℤ c → t ≡ x -ℤ y → v <ℤ u → pos 0 <ℤ t
higher u v c x y t h k l m = omega (arith, ints)

-- the second line, on its way to take in a right end that is right of the first line
pub record SecondToRight (ks : List Kept) (right : EndAt) (w : Wedge) (rest : ℕ) (wide : Wedge) (s : Slope) (bound : ℤ) : Type 0 where
  pub first : wide.first ≡ w.first
  pub slope : IsSlopeOf wide.second s
  pub level : IsLevelAt wide.second right.at bound
  pub top : ℕ
  pub look : LooksBack (kept_ends ks) rest top
  pub part : (R : List EndAt) → IsConeOfEnds (kept_ends ks) R (Open w) → IsRightPart (kept_ends ks) R right (From top) (Open wide)

-- the first line, on its way to take in a left end that is right of the second line
pub record FirstToLeft (ks : List Kept) (left : EndAt) (w : Wedge) (rest : ℕ) (wide : Wedge) (s : Slope) (bound : ℤ) : Type 0 where
  pub second : wide.second ≡ w.second
  pub slope : IsSlopeOf wide.first s
  pub level : IsLevelAt wide.first left.at bound
  pub top : ℕ
  pub look : LooksBack (kept_ends ks) rest top
  pub part : (L : List EndAt) → IsConeOfEnds L (kept_ends ks) (Open w) → IsLeftPart L (kept_ends ks) left (From top) (Open wide)

-- an end with a lesser value moves nothing
pub right_passed : (L R : List EndAt) (right l : EndAt) (w wide : Wedge) (n : ℕ) (u v : ℤ) → IsConeOfEnds L R (Open w) → form_at w.first right.at <ℤ pos 0 → wide.first ≡ w.first → slice_get L n ≡ Some l → IsLevelAt wide.second l.at u → IsLevelAt wide.second right.at v → u <ℤ v → IsWidened (Open wide) l right (Open wide)
right_passed L R right l w wide n u v cone beyond same at h k less = stays (Open wide) l right (within_both wide l right (beyond_first_right L R right l w wide n cone at beyond same)
    (lower u v wide.second.c (form_at wide.second l.at) (form_at wide.second right.at) (cross (arrow_of wide.second) (difference l.at right.at)) h.level k.level (turn_is wide.second l.at right.at) less))

pub left_passed : (L R : List EndAt) (left r : EndAt) (w wide : Wedge) (n : ℕ) (u v : ℤ) → IsConeOfEnds L R (Open w) → form_at w.second left.at <ℤ pos 0 → wide.second ≡ w.second → slice_get R n ≡ Some r → IsLevelAt wide.first r.at u → IsLevelAt wide.first left.at v → u <ℤ v → IsWidened (Open wide) left r (Open wide)
left_passed L R left r w wide n u v cone beyond same at h k less = stays (Open wide) left r (within_both wide left r
    (higher v u wide.first.c (form_at wide.first left.at) (form_at wide.first r.at) (cross (arrow_of wide.first) (difference left.at r.at)) k.level h.level (turn_is wide.first left.at r.at) less)
    (beyond_second_left L R left r w wide n cone at beyond same))

-- the look goes on from an end
module _ (ks : List Kept) (new : EndAt) (k : Kept) (w wide wider : Wedge) (rest : ℕ) (s s' : Slope) (bound bound' : ℤ) where
  pub right_looks : HasChainSteps ks → 0 < rest → IsNext ks rest k → SecondToRight ks new w rest wide s bound → IsWidened (Open wide) k.end new (Open wider) → wider.first ≡ wide.first → IsSlopeOf wider.second s' → IsLevelAt wider.second new.at bound' → SecondToRight ks new w (rest - k.step) wider s' bound'
  right_looks steps some is h more same slope level = record {
    first = same ∙ h.first;
    slope = slope;
    level = level;
    top = rest - 1;
    look = look_on ks rest h.top k steps h.look some is;
    part = λ R c. right_back (kept_ends ks) R rest h.top (Open wide) wider new k.end h.look some (next_at ks rest h.top k h.look some is) more (h.part R c);
  }

  pub left_looks : HasChainSteps ks → 0 < rest → IsNext ks rest k → FirstToLeft ks new w rest wide s bound → IsWidened (Open wide) new k.end (Open wider) → wider.second ≡ wide.second → IsSlopeOf wider.first s' → IsLevelAt wider.first new.at bound' → FirstToLeft ks new w (rest - k.step) wider s' bound'
  left_looks steps some is h more same slope level = record {
    second = same ∙ h.second;
    slope = slope;
    level = level;
    top = rest - 1;
    look = look_on ks rest h.top k steps h.look some is;
    part = λ L c. left_back L (kept_ends ks) rest h.top (Open wide) wider new k.end h.look some (next_at ks rest h.top k h.look some is) more (h.part L c);
  }

-- nothing is left
module _ (ks : List Kept) (new : EndAt) (w wide : Wedge) (rest : ℕ) (s : Slope) (bound : ℤ) (others : List EndAt) where
  pub right_looked : rest ≡ 0 → SecondToRight ks new w rest wide s bound → IsConeOfEnds (kept_ends ks) others (Open w) → IsConeOfEnds (kept_ends ks) (others ++ new ∷ []) (Open wide)
  right_looked z h c = right_whole (kept_ends ks) others new (From h.top) (Open wide) (λ k l. let t = h.look.done z in omega (arith, t)) (h.part others c)

  pub left_looked : rest ≡ 0 → FirstToLeft ks new w rest wide s bound → IsConeOfEnds others (kept_ends ks) (Open w) → IsConeOfEnds (others ++ new ∷ []) (kept_ends ks) (Open wide)
  left_looked z h c = left_whole others (kept_ends ks) new (From h.top) (Open wide) (λ k l. let t = h.look.done z in omega (arith, t)) (h.part others c)
