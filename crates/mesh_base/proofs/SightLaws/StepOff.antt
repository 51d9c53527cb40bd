-- A little before its crossing with a line a ray is on no line, and touches the side of that line from which it comes.
use Rattle.std.proofs.Common.{◌≡◌, ◌≢◌, ℕ, zero, suc, ◌+◌, ◌*◌, ◌<◌, ◌≤◌, ℤ, pos, ◌+ℤ◌, ◌*ℤ◌, ◌-ℤ◌, ◌≤ℤ◌, ◌<ℤ◌, neg_ℤ, nat_abs, arith, refl, sym, ap, subst, ◌∙◌, inl, inr, List, [], ◌∷◌, Option, Some, None, Bool, true, false, not, option_and_then, slice_get}
use borrow.Author.Differences.{ints}
use lib.IntN.{*ℤ-zero, *ℤ_comm}
use Rattle.math_base.proofs.Quoting.{quoting, by_ring}
use Rattle.math_base.proofs.Signs.{mul-pos, mul-le, sign_cases, square-nonneg}
use Rattle.math_base.proofs.MoreSigns.{square-pos}
use Rattle.sight_names.specs.declared.names.Pt.{Pt}
use Rattle.sight_names.specs.declared.names.Ray.{Ray}
use Rattle.sight_names.specs.Point.{Point, point_of, SamePoint, OnSegment, OnSide, value_at}
use Rattle.sight_names.specs.Map.{Map, MapLine, line_at, IsMap}
use Rattle.sight_names.specs.Path.{OnLine, Misses, OnNoLine, Touches}
use Rattle.sight_names.specs.Sound.{LinesMeetAtEnds}
use Rattle.sight_names.specs.Ray.{ray_value, along, SplitsLine, IsCrossing}
use Rattle.sight_names.proofs.Affine.{parted_misses}
use Rattle.sight_names.proofs.Laws.{start_on, on_segment_sym, same_point_refl}
use Rattle.mesh_base.proofs.SightLaws.Rays.{Behind, HasDirection, order, on_stretch, stretch_on_ray, split_direction, split_once, split_inside, along_same, before_turn, turn_swap}
use Rattle.math_base.proofs.Numbers.{same_or_not}
use Rattle.math_base.proofs.Options.{none_is_not_some}
use Rattle.math_base.proofs.Small.{times_one, pos_of_negated_neg, nonpos_of_zero, negated_sum, pos_not_zero, neg_not_zero}
use Rattle.math_base.proofs.Ring.{same_of_difference}
use Rattle.sight_names.proofs.Portals.{scale_above}
use Rattle.sight_names.proofs.Records.{same_pt}

-- ---- a point that isn't on a line is parted from it
-- the value is above 0 at the point, and not at the line's ends
pub record IsParted (u v : Pt) (x : Point) : Type 0 where
  pub a : ℤ
  pub b : ℤ
  pub c : ℤ
  pub beyond : pos 0 <ℤ value_at a b c x
  pub first : value_at a b c (point_of u) ≤ℤ pos 0
  pub second : value_at a b c (point_of v) ≤ℤ pos 0

-- the line through u and v as a ray
abbrev line_ray : Pt → Pt → Ray
line_ray u v = record { first = record { line = 0; left = false }; last = record { line = 0; left = false }; a = u.y -ℤ v.y; b = v.x -ℤ u.x; c = u.x *ℤ v.y -ℤ u.y *ℤ v.x }

at_first : (u v : Pt) → ray_value (line_ray u v) (point_of u) ≡ pos 0
at_first u v = ring u.x u.y v.x v.y
  where
    ring : (ux uy vx vy : ℤ) → (uy -ℤ vy) *ℤ ux +ℤ (vx -ℤ ux) *ℤ uy +ℤ (ux *ℤ vy -ℤ uy *ℤ vx) *ℤ pos 1 ≡ pos 0
    ring ux uy vx vy = by_ring (ux ∷ uy ∷ vx ∷ vy ∷ []) _ _ (search quoting depth 60 fits 200000) (search quoting depth 60 fits 200000) tt

at_second : (u v : Pt) → ray_value (line_ray u v) (point_of v) ≡ pos 0
at_second u v = ring u.x u.y v.x v.y
  where
    ring : (ux uy vx vy : ℤ) → (uy -ℤ vy) *ℤ vx +ℤ (vx -ℤ ux) *ℤ vy +ℤ (ux *ℤ vy -ℤ uy *ℤ vx) *ℤ pos 1 ≡ pos 0
    ring ux uy vx vy = by_ring (ux ∷ uy ∷ vx ∷ vy ∷ []) _ _ (search quoting depth 60 fits 200000) (search quoting depth 60 fits 200000) tt

-- the squared distance
abbrev pub distance : Pt → Pt → ℤ
distance u v = (u.x -ℤ v.x) *ℤ (u.x -ℤ v.x) +ℤ (u.y -ℤ v.y) *ℤ (u.y -ℤ v.y)

pub distance_pos : (u v : Pt) → u ≢ v → pos 0 <ℤ distance u v
distance_pos u v n = elim (sign_cases (u.x -ℤ v.x)) as (λ _. pos 0 <ℤ distance u v) [
  | inl h ↦ wide (u.x -ℤ v.x) (u.y -ℤ v.y) (λ e. neg_not_zero _ h e)
  | inr k ↦ elim k as (λ _. pos 0 <ℤ distance u v) [
    | inr h ↦ wide (u.x -ℤ v.x) (u.y -ℤ v.y) (λ e. pos_not_zero _ h e)
    | inl ex ↦ elim (sign_cases (u.y -ℤ v.y)) as (λ _. pos 0 <ℤ distance u v) [
      | inl h ↦ high (u.x -ℤ v.x) (u.y -ℤ v.y) (λ e. neg_not_zero _ h e)
      | inr j ↦ elim j as (λ _. pos 0 <ℤ distance u v) [
        | inr h ↦ high (u.x -ℤ v.x) (u.y -ℤ v.y) (λ e. pos_not_zero _ h e)
        | inl ey ↦ absurd (n (same_pt u v (same_of_difference _ _ ex) (same_of_difference _ _ ey)))
      ]
    ]
  ]
]
  where
    wide : (x y : ℤ) → ¬ (x ≡ pos 0) → pos 0 <ℤ (x *ℤ x +ℤ y *ℤ y)
    wide x y n = let h = square-pos x n in let k = square-nonneg y in omega (arith, ints)

    high : (x y : ℤ) → ¬ (y ≡ pos 0) → pos 0 <ℤ (x *ℤ x +ℤ y *ℤ y)
    high x y n = let h = square-nonneg x in let k = square-pos y n in omega (arith, ints)

line_direction : (u v : Pt) → u ≢ v → HasDirection (line_ray u v)
line_direction u v n = subst (λ (x : ℤ). pos 0 <ℤ x) (ring u.x u.y v.x v.y) (distance_pos u v n)
  where
    ring : (ux uy vx vy : ℤ) → (ux -ℤ vx) *ℤ (ux -ℤ vx) +ℤ (uy -ℤ vy) *ℤ (uy -ℤ vy) ≡ (uy -ℤ vy) *ℤ (uy -ℤ vy) +ℤ (vx -ℤ ux) *ℤ (vx -ℤ ux)
    ring ux uy vx vy = by_ring (ux ∷ uy ∷ vx ∷ vy ∷ []) _ _ (search quoting depth 60 fits 200000) (search quoting depth 60 fits 200000) tt

-- v is strictly behind u along it
line_forward : (u v : Pt) → u ≢ v → along (line_ray u v) (point_of u) <ℤ along (line_ray u v) (point_of v)
line_forward u v n = let h = distance_pos u v n in let e = ring u.x u.y v.x v.y in omega (arith, ints)
  where
    ring : (ux uy vx vy : ℤ) → ((vx -ℤ ux) *ℤ vx -ℤ (uy -ℤ vy) *ℤ vy) -ℤ ((vx -ℤ ux) *ℤ ux -ℤ (uy -ℤ vy) *ℤ uy) ≡ (ux -ℤ vx) *ℤ (ux -ℤ vx) +ℤ (uy -ℤ vy) *ℤ (uy -ℤ vy)
    ring ux uy vx vy = by_ring (ux ∷ uy ∷ vx ∷ vy ∷ []) _ _ (search quoting depth 60 fits 200000) (search quoting depth 60 fits 200000) tt

place_ring : (a b h x y d : ℤ) → neg_ℤ b *ℤ x +ℤ a *ℤ y +ℤ h *ℤ d ≡ h *ℤ d -ℤ (b *ℤ x -ℤ a *ℤ y)
place_ring a b h x y d = by_ring (a ∷ b ∷ h ∷ x ∷ y ∷ d ∷ []) _ _ (search quoting depth 60 fits 200000) (search quoting depth 60 fits 200000) tt

back_ring : (a b h x y d : ℤ) → b *ℤ x +ℤ neg_ℤ a *ℤ y +ℤ neg_ℤ h *ℤ d ≡ (b *ℤ x -ℤ a *ℤ y) -ℤ h *ℤ d
back_ring a b h x y d = by_ring (a ∷ b ∷ h ∷ x ∷ y ∷ d ∷ []) _ _ (search quoting depth 60 fits 200000) (search quoting depth 60 fits 200000) tt

pub parted : (u v : Pt) (x : Point) → u ≢ v → ¬ OnSegment (point_of u) (point_of v) x → IsParted u v x
parted u v x n off = elim (sign_cases (ray_value r x)) as (λ _. IsParted u v x) [
  | inr k ↦ elim k as (λ _. IsParted u v x) [
    | inr h ↦ record { a = r.a; b = r.b; c = r.c; beyond = h; first = nonpos_of_zero _ e0; second = nonpos_of_zero _ e1 }
    | inl e ↦ elim (order r (point_of u) x) as (λ _. IsParted u v x) [
      | inr b ↦ record {
        a = neg_ℤ r.b;
        b = r.a;
        c = along r (point_of u);
        beyond = subst (λ (t : ℤ). pos 0 <ℤ t) (sym (place_ring r.a r.b (along r (point_of u)) x.x x.y (pos x.d))) (gap _ _ b);
        first = same_low _ (along r (point_of u)) (place_ring r.a r.b (along r (point_of u)) u.x u.y (pos 1));
        second = far_low _ _ _ (place_ring r.a r.b (along r (point_of u)) v.x v.y (pos 1)) (line_forward u v n);
      }
      | inl nb ↦ elim (order r x (point_of v)) as (λ _. IsParted u v x) [
        | inr b ↦ record {
          a = r.b;
          b = neg_ℤ r.a;
          c = neg_ℤ (along r (point_of v));
          beyond = subst (λ (t : ℤ). pos 0 <ℤ t) (sym (back_ring r.a r.b (along r (point_of v)) x.x x.y (pos x.d))) (gap2 _ _ b);
          first = near_low _ _ _ (back_ring r.a r.b (along r (point_of v)) u.x u.y (pos 1)) (line_forward u v n);
          second = same_low2 _ (along r (point_of v)) (back_ring r.a r.b (along r (point_of v)) v.x v.y (pos 1));
        }
        | inl na ↦ absurd (off (on_stretch r (point_of u) (point_of v) x (line_direction u v n) e0 e1 e nb na))
      ]
    ]
  ]
  | inl h ↦ record {
    a = neg_ℤ r.a;
    b = neg_ℤ r.b;
    c = neg_ℤ r.c;
    beyond = pos_of_negated_neg _ _ (negated_sum r.a r.b r.c x.x x.y (pos x.d)) h;
    first = neg_zero _ _ (negated_sum r.a r.b r.c u.x u.y (pos 1)) e0;
    second = neg_zero _ _ (negated_sum r.a r.b r.c v.x v.y (pos 1)) e1;
  }
]
  where
    r : Ray
    r = line_ray u v

    e0 : ray_value (line_ray u v) (point_of u) ≡ pos 0
    e0 = at_first u v

    e1 : ray_value (line_ray u v) (point_of v) ≡ pos 0
    e1 = at_second u v

    gap : (t s : ℤ) → (t *ℤ pos 1) <ℤ s → pos 0 <ℤ (s -ℤ t)
    gap t s h = omega (arith, ints)

    gap2 : (t s : ℤ) → t <ℤ (s *ℤ pos 1) → pos 0 <ℤ (s -ℤ t)
    gap2 t s h = omega (arith, ints)

    same_low : (s h : ℤ) → s ≡ h *ℤ pos 1 -ℤ h → s ≤ℤ pos 0
    same_low s h e = omega (arith, ints)

    same_low2 : (s h : ℤ) → s ≡ h -ℤ h *ℤ pos 1 → s ≤ℤ pos 0
    same_low2 s h e = omega (arith, ints)

    far_low : (s h k : ℤ) → s ≡ h *ℤ pos 1 -ℤ k → h <ℤ k → s ≤ℤ pos 0
    far_low s h k e f = omega (arith, ints)

    near_low : (s h k : ℤ) → s ≡ h -ℤ k *ℤ pos 1 → h <ℤ k → s ≤ℤ pos 0
    near_low s h k e f = omega (arith, ints)

    neg_zero : (t s : ℤ) → t ≡ neg_ℤ s → s ≡ pos 0 → t ≤ℤ pos 0
    neg_zero t s e f = omega (arith, ints)

-- ---- k steps' worth of the point, and one step back along the ray
pub back_above : (x : Point) (k : ℕ) → 0 < suc k * x.d
back_above x k = mul-pos-nat (suc k) x.d (omega arith) x.positive
  where
    mul-pos-nat : (a b : ℕ) → 0 < a → 0 < b → 0 < a * b
    mul-pos-nat a b h k = grind arith

abbrev pub back : Ray → Point → ℕ → Point
back r x k = record { x = pos (suc k) *ℤ x.x -ℤ r.b; y = pos (suc k) *ℤ x.y +ℤ r.a; d = suc k * x.d; positive = back_above x k }

back_last : (x : Point) (k : ℕ) → pos (suc k * x.d) ≡ pos (suc k) *ℤ pos x.d
back_last x k = omega (arith, ints)

value_ring : (a b c n ra rb x y d : ℤ) → a *ℤ (n *ℤ x -ℤ rb) +ℤ b *ℤ (n *ℤ y +ℤ ra) +ℤ c *ℤ (n *ℤ d) ≡ n *ℤ (a *ℤ x +ℤ b *ℤ y +ℤ c *ℤ d) -ℤ (a *ℤ rb -ℤ b *ℤ ra)
value_ring a b c n ra rb x y d = by_ring (a ∷ b ∷ c ∷ n ∷ ra ∷ rb ∷ x ∷ y ∷ d ∷ []) _ _ (search quoting depth 60 fits 200000) (search quoting depth 60 fits 200000) tt

back_value : (a b c : ℤ) (r : Ray) (x : Point) (k : ℕ) → value_at a b c (back r x k) ≡ pos (suc k) *ℤ value_at a b c x -ℤ (a *ℤ r.b -ℤ b *ℤ r.a)
back_value a b c r x k = ap (λ (d : ℤ). a *ℤ (pos (suc k) *ℤ x.x -ℤ r.b) +ℤ b *ℤ (pos (suc k) *ℤ x.y +ℤ r.a) +ℤ c *ℤ d) (back_last x k) ∙ value_ring a b c (pos (suc k)) r.a r.b x.x x.y (pos x.d)

-- it is on the ray's line
pub back_on : (r : Ray) (x : Point) (k : ℕ) → ray_value r x ≡ pos 0 → ray_value r (back r x k) ≡ pos 0
back_on r x k e = back_value r.a r.b r.c r x k ∙ none (pos (suc k)) (ray_value r x) r.a r.b e
  where
    none : (n v a b : ℤ) → v ≡ pos 0 → n *ℤ v -ℤ (a *ℤ b -ℤ b *ℤ a) ≡ pos 0
    none n v a b e = let z : n *ℤ v ≡ pos 0 = ap (λ (t : ℤ). n *ℤ t) e ∙ *ℤ-zero n in let c = *ℤ_comm a b in omega (arith, ints)

-- and strictly before the point
pub back_before : (r : Ray) (x : Point) (k : ℕ) → HasDirection r → Behind r x (back r x k)
back_before r x k h =
    let e = back_last x k in
    subst (λ (d : ℤ). (along r (back r x k) *ℤ pos x.d) <ℤ (along r x *ℤ d)) (sym e) (less (along r (back r x k) *ℤ pos x.d) (along r x *ℤ (pos (suc k) *ℤ pos x.d)) _ (ring r.a r.b (pos (suc k)) x.x x.y (pos x.d)) (mul-pos _ _ h (scale_above x)))
  where
    ring : (a b n x y d : ℤ) → (b *ℤ (n *ℤ x -ℤ b) -ℤ a *ℤ (n *ℤ y +ℤ a)) *ℤ d ≡ (b *ℤ x -ℤ a *ℤ y) *ℤ (n *ℤ d) -ℤ (a *ℤ a +ℤ b *ℤ b) *ℤ d
    ring a b n x y d = by_ring (a ∷ b ∷ n ∷ x ∷ y ∷ d ∷ []) _ _ (search quoting depth 60 fits 200000) (search quoting depth 60 fits 200000) tt

    less : (s t u : ℤ) → s ≡ t -ℤ u → pos 0 <ℤ u → s <ℤ t
    less s t u e h = omega (arith, ints)

-- ---- near enough, no line but the crossed one has a point of the segment
abbrev Near : Ray → Point → MapLine → ℕ → Type 0
Near r x l k = (n : ℕ) → k ≤ n → Misses (back r x n) x l

near_one : (r : Ray) (x : Point) (l : MapLine) → IsParted l.first l.second x → (k : ℕ) × Near r x l k
near_one r x l g = (nat_abs (g.a *ℤ r.b -ℤ g.b *ℤ r.a), λ n h. parted_misses g.a g.b g.c (back r x n) x l (far n h) g.beyond g.first g.second)
  where
    wide : (n : ℕ) (v w : ℤ) → pos 0 <ℤ v → nat_abs w ≤ n → pos 0 <ℤ (pos (suc n) *ℤ v -ℤ w)
    wide n v w h k = let p = mul-le (pos (suc n)) (pos 1) v (omega (arith, ints)) (omega (arith, ints)) in let q : pos (suc n) *ℤ pos 1 ≡ pos (suc n) = times_one (pos (suc n)) in omega (arith, ints)

    far : (n : ℕ) → nat_abs (g.a *ℤ r.b -ℤ g.b *ℤ r.a) ≤ n → pos 0 <ℤ value_at g.a g.b g.c (back r x n)
    far n h = subst (λ (t : ℤ). pos 0 <ℤ t) (sym (back_value g.a g.b g.c r x n)) (wide n (value_at g.a g.b g.c x) (g.a *ℤ r.b -ℤ g.b *ℤ r.a) g.beyond h)

-- a bound for each line of a list gives one for all
abbrev line_in : List (Option MapLine) → ℕ → Option MapLine
line_in ls i = option_and_then (λ l. l) (slice_get ls i)

pub one_bound : (ls : List (Option MapLine)) (Good : ℕ → MapLine → ℕ → Type 0) → ((i : ℕ) (l : MapLine) → line_in ls i ≡ Some l → (k : ℕ) × ((n : ℕ) → k ≤ n → Good i l n))
    → (k : ℕ) × ((i : ℕ) (l : MapLine) → line_in ls i ≡ Some l → (n : ℕ) → k ≤ n → Good i l n)
one_bound [] Good each = (0, λ i l e. absurd (none_is_not_some l e))
one_bound (None ∷ ls) Good each =
    let rest = one_bound ls (λ i. Good (suc i)) (λ i l e. each (suc i) l e) in
    (rest.0, found rest.1)
  where
    found : {k : ℕ} → ((i : ℕ) (l : MapLine) → line_in ls i ≡ Some l → (n : ℕ) → k ≤ n → Good (suc i) l n) → (i : ℕ) (l : MapLine) → line_in (None ∷ ls) i ≡ Some l → (n : ℕ) → k ≤ n → Good i l n
    found h zero l e = absurd (none_is_not_some l e)
    found h (suc i) l e = h i l e
one_bound (Some h ∷ ls) Good each =
    let here = each 0 h refl in
    let rest = one_bound ls (λ i. Good (suc i)) (λ i l e. each (suc i) l e) in
    (here.0 + rest.0, found here.0 rest.0 here.1 rest.1)
  where
    found : (j k : ℕ) → ((n : ℕ) → j ≤ n → Good 0 h n) → ((i : ℕ) (l : MapLine) → line_in ls i ≡ Some l → (n : ℕ) → k ≤ n → Good (suc i) l n)
        → (i : ℕ) (l : MapLine) → line_in (Some h ∷ ls) i ≡ Some l → (n : ℕ) → j + k ≤ n → Good i l n
    found j k f g zero l e n b = subst (λ (x : MapLine). Good 0 x n) (same l e) (f n (omega arith))
      where
        same : (l : MapLine) → ◌≡◌ {A = Option MapLine} (Some h) (Some l) → h ≡ l
        same l e = cc
    found j k f g (suc i) l e n b = g i l e n (omega arith)

-- ---- the crossing is on no other line
crossing_alone : (m : Map) (r : Ray) (i : ℕ) (l : MapLine) (b : Bool) (x : Point) → LinesMeetAtEnds m → line_at m i ≡ Some l → SplitsLine r l b → IsCrossing r l x → (j : ℕ) (k : MapLine) → line_at m j ≡ Some k → j ≢ i → ¬ OnLine k x
crossing_alone m r i l b x ends is sp c j k is_k n on =
    let inside = split_inside r l b x sp c in
    elim ((ends j i k l n is_k is).ends x (on, c.0)).1 as (λ _. ⊥) [ inl e ↦ inside.5 e | inr e ↦ inside.6 e ]

-- ---- the point before the crossing
pub record StepOff (m : Map) (r : Ray) (i : ℕ) (left : Bool) (x : Point) : Type 0 where
  pub p : Point
  pub on_ray : ray_value r p ≡ pos 0
  pub before : Behind r x p
  pub free : OnNoLine m p
  pub touches : Touches m p (record { line = i; left = left })
  pub only : (j : ℕ) (k : MapLine) (z : Point) → line_at m j ≡ Some k → OnSegment p x z → OnLine k z → SamePoint z x

side_before : (r : Ray) (l : MapLine) (left : Bool) (x p : Point) → SplitsLine r l (not left) → IsCrossing r l x → ray_value r p ≡ pos 0 → Behind r x p → OnSide l.first l.second left p
side_before r l false x p sp c e b = before_turn r l.first l.second x p (record { left = sp.0; right = sp.1 }) c.0 c.1 e b
side_before r l true x p sp c e b =
    let t = before_turn r l.second l.first x p (record { left = sp.1; right = sp.0 }) (on_segment_sym (point_of l.first) (point_of l.second) x c.0) c.1 e b in
    let s = turn_swap l.first l.second p in
    up _ _ s t
  where
    up : (s t : ℤ) → s ≡ neg_ℤ t → s <ℤ pos 0 → pos 0 <ℤ t
    up s t e h = omega (arith, ints)

pub step_off : (m : Map) (r : Ray) (i : ℕ) (l : MapLine) (left : Bool) (x : Point) → IsMap m → LinesMeetAtEnds m → line_at m i ≡ Some l → SplitsLine r l (not left) → IsCrossing r l x → StepOff m r i left x
step_off m r i l left x is_map ends is sp c =
    let alone = crossing_alone m r i l (not left) x ends is sp c in
    let near = one_bound m.lines (λ j k n. j ≢ i → Misses (back r x n) x k)
    (λ j k e. elim (same_or_not j i) as (λ _. (b : ℕ) × ((n : ℕ) → b ≤ n → j ≢ i → Misses (back r x n) x k)) [
      | inl same ↦ (0, λ n h ne. absurd (ne same))
      | inr ne ↦ let g = near_one r x k (parted k.first k.second x (is_map j k e).differ (alone j k e ne)) in (g.0, λ n h _. g.1 n h)
    ]) in
    let p = back r x near.0 in
    let on_ray = back_on r x near.0 c.1 in
    let before = back_before r x near.0 (split_direction r l (not left) sp) in
    let others : (j : ℕ) (k : MapLine) → line_at m j ≡ Some k → j ≢ i → Misses p x k = λ j k e ne. near.1 j k e near.0 (omega arith) ne in
    let own : (k : MapLine) (z : Point) → line_at m i ≡ Some k → ray_value r z ≡ pos 0 → OnLine k z → SamePoint z x = λ k z e v o.
    split_once r l (not left) z x sp (subst (λ (t : MapLine). OnLine t z) (same k e) o, v) c in
    let free : OnNoLine m p = λ j k e o. elim (same_or_not j i) as (λ _. ⊥) [
      | inl same_number ↦ before_not r x p before (own k p (subst (λ (t : ℕ). line_at m t ≡ Some k) same_number e) on_ray o)
      | inr ne ↦ others j k e ne p (start_on p x) o
    ] in
    let only : (j : ℕ) (k : MapLine) (z : Point) → line_at m j ≡ Some k → OnSegment p x z → OnLine k z → SamePoint z x = λ j k z e s o. elim (same_or_not j i) as (λ _. SamePoint z x) [
      | inl same_number ↦ own k z (subst (λ (t : ℕ). line_at m t ≡ Some k) same_number e) (stretch_on_ray r p x z on_ray c.1 s) o
      | inr ne ↦ absurd (others j k e ne z s o)
    ] in
    record {
      p = p;
      on_ray = on_ray;
      before = before;
      free = free;
      touches = record {
        line = l;
        is = is;
        q = p;
        path = ([], (free, same_point_refl p));
        side = side_before r l left x p sp c on_ray before;
        foot = x;
        inside = split_inside r l (not left) x sp c;
        clear = only;
      };
      only = only;
    }
  where
    same : (k : MapLine) → line_at m i ≡ Some k → k ≡ l
    same k e = inner k (sym e ∙ is)
      where
        inner : (k : MapLine) → ◌≡◌ {A = Option MapLine} (Some k) (Some l) → k ≡ l
        inner k e = cc

    before_not : (r : Ray) (x p : Point) → Behind r x p → SamePoint p x → ⊥
    before_not r x p b s = let e = along_same r p x s in omega (arith, ints)
