-- Whether a segment has a point of the stretch between two crossings.
use Rattle.std.proofs.Common.{◌≡◌, ℕ, Some, None, IsTrue, Bool, true, false, not, MatchBool, ℤ, pos, neg_ℤ, ◌≤ℤ◌, ◌<ℤ◌, arith, sym, subst, ◌∙◌, inl, inr}
use borrow.Author.Differences.{ints}
use Rattle.math_base.proofs.Signs.{sign_cases}
use Rattle.sight_names.specs.declared.names.Pt.{Pt}
use Rattle.sight_names.specs.declared.names.Ray.{Ray}
use Rattle.sight_names.specs.Point.{Point, point_of, OnSegment}
use Rattle.sight_names.specs.Map.{Map, MapLine, line_at}
use Rattle.sight_names.specs.Ray.{ray_value, NotBehind}
use Rattle.sight_names.proofs.Affine.{value_pos, neg_value}
use Rattle.sight_names.proofs.Laws.{on_segment_sym, start_on}
use Rattle.geom_exact.specs.Formulas.{turn_of, side_value, AreOnOneSide, AreOnTwoSides}
use Rattle.geom_exact.proofs.SegmentLemmas.{turn_is_at}
use Rattle.geom_exact.proofs.CrossingLemmas.{crossing_exists}
use Rattle.mesh_base.proofs.SightLaws.Rays.{Behind, Parts, HasDirection, order, not_both, behind_not, parts_direction, on_stretch, stretch_on_ray, stretch_after, stretch_before, turn_not_before, turn_before, turn_not_behind, turn_behind, all_before, all_behind, alone_on, only_end}
use Rattle.sight_ray.specs.declared.crossed_line.CrossedLine.{CrossedLine}
use Rattle.sight_ray.specs.CrossedLine.{IsCrossedLine, CrossingOfLine, IsForward, IsHit, IsStretchClear, ReachesStart, ReachesStop, IsMet, IsStretchPassed, AllBehind, AllInOrder, IsHitAt, IsClearAt}
use Rattle.sight_ray.proofs.CrossedLineLemmas.{same_line}
use Rattle.math_base.proofs.Options.{none_is_not_some}

pub parts_of : (r : Ray) (g : CrossedLine) → IsCrossedLine r g → Parts r g.left g.right
parts_of r g h = record { left = h.left; right = h.right }

pub two_sides : (r : Ray) (g : CrossedLine) → IsCrossedLine r g → AreOnTwoSides (side_value r g.left) (side_value r g.right)
unfolding side_value
two_sides r g h = inl (h.left, h.right)

direction : (r : Ray) (g : CrossedLine) → IsCrossedLine r g → HasDirection r
direction r g h = parts_direction r g.left g.right (parts_of r g h)

not_before : (r : Ray) (g : CrossedLine) (s : Point) (p : Pt) → IsCrossedLine r g → CrossingOfLine r g s → ray_value r (point_of p) ≡ pos 0 → pos 0 ≤ℤ turn_of g.left g.right p → NotBehind r s (point_of p)
not_before r g s p h c e t = turn_not_before r g.left g.right s (point_of p) (parts_of r g h) c.0 c.1 e (subst (λ (x : ℤ). pos 0 ≤ℤ x) (turn_is_at g.left g.right p) t)

before : (r : Ray) (g : CrossedLine) (s : Point) (p : Pt) → IsCrossedLine r g → CrossingOfLine r g s → ray_value r (point_of p) ≡ pos 0 → turn_of g.left g.right p <ℤ pos 0 → Behind r s (point_of p)
before r g s p h c e t = turn_before r g.left g.right s (point_of p) (parts_of r g h) c.0 c.1 e (subst (λ (x : ℤ). x <ℤ pos 0) (turn_is_at g.left g.right p) t)

not_after : (r : Ray) (g : CrossedLine) (s : Point) (p : Pt) → IsCrossedLine r g → CrossingOfLine r g s → ray_value r (point_of p) ≡ pos 0 → turn_of g.left g.right p ≤ℤ pos 0 → NotBehind r (point_of p) s
not_after r g s p h c e t = turn_not_behind r g.left g.right s (point_of p) (parts_of r g h) c.0 c.1 e (subst (λ (x : ℤ). x ≤ℤ pos 0) (turn_is_at g.left g.right p) t)

after : (r : Ray) (g : CrossedLine) (s : Point) (p : Pt) → IsCrossedLine r g → CrossingOfLine r g s → ray_value r (point_of p) ≡ pos 0 → pos 0 <ℤ turn_of g.left g.right p → Behind r (point_of p) s
after r g s p h c e t = turn_behind r g.left g.right s (point_of p) (parts_of r g h) c.0 c.1 e (subst (λ (x : ℤ). pos 0 <ℤ x) (turn_is_at g.left g.right p) t)

-- ---- a segment on the ray's line
abbrev Common : Point → Point → Pt → Pt → Type 0
Common s t p q = (z : Point) × OnSegment s t z × OnSegment (point_of p) (point_of q) z

swap : (s t : Point) (p q : Pt) → Common s t q p → Common s t p q
swap s t p q (z, a, b) = (z, a, on_segment_sym (point_of q) (point_of p) z b)

-- p isn't before s, and q isn't behind t
overlap : (r : Ray) (s t : Point) (p q : Pt) → HasDirection r → ray_value r s ≡ pos 0 → ray_value r t ≡ pos 0 → ray_value r (point_of p) ≡ pos 0 → ray_value r (point_of q) ≡ pos 0
    → NotBehind r s t → NotBehind r s (point_of p) → NotBehind r (point_of q) t → Common s t p q
overlap r s t p q hn es et ep eq f h k = elim (order r (point_of p) t) as (λ _. Common s t p q) [
  | inl n ↦ (point_of p, on_stretch r s t (point_of p) hn es et ep h n, start_on (point_of p) (point_of q))
  | inr b ↦ (t, on_segment_sym t s t (start_on t s), on_segment_sym (point_of q) (point_of p) t (on_stretch r (point_of q) (point_of p) t hn eq ep et k (behind_not r (point_of p) t b)))
]

pub met_hits : (r : Ray) (g h : CrossedLine) (p q : Pt) → IsCrossedLine r g → IsCrossedLine r h → IsForward r g h → ray_value r (point_of p) ≡ pos 0 → ray_value r (point_of q) ≡ pos 0 → IsMet g h p q → IsHit r g h p q
met_hits r g h p q gg gh fw ep eq m s t cs ct = cases m.0 m.1
  where
    hn : HasDirection r
    hn = direction r g gg

    f : NotBehind r s t
    f = fw s t cs ct

    cases : ReachesStart g p q → ReachesStop h p q → Common s t p q
    cases (inl a) (inl b) = (point_of p, on_stretch r s t (point_of p) hn cs.1 ct.1 ep (not_before r g s p gg cs ep a) (not_after r h t p gh ct ep b), start_on (point_of p) (point_of q))
    cases (inl a) (inr b) = overlap r s t p q hn cs.1 ct.1 ep eq f (not_before r g s p gg cs ep a) (not_after r h t q gh ct eq b)
    cases (inr a) (inl b) = swap s t p q (overlap r s t q p hn cs.1 ct.1 eq ep f (not_before r g s q gg cs eq a) (not_after r h t p gh ct ep b))
    cases (inr a) (inr b) = swap s t p q (point_of q, on_stretch r s t (point_of q) hn cs.1 ct.1 eq (not_before r g s q gg cs eq a) (not_after r h t q gh ct eq b), start_on (point_of q) (point_of p))

pub passed_clears : (r : Ray) (g h : CrossedLine) (p q : Pt) → IsCrossedLine r g → IsCrossedLine r h → IsForward r g h → ray_value r (point_of p) ≡ pos 0 → ray_value r (point_of q) ≡ pos 0 → IsStretchPassed g h p q → IsStretchClear r g h p q
passed_clears r g h p q gg gh fw ep eq m s t z cs ct on_stretch on_line = cases m
  where
    f : NotBehind r s t
    f = fw s t cs ct

    cases : IsStretchPassed g h p q → ⊥
    cases (inl a) = not_both r s z (stretch_after r s t z f on_stretch) (all_before r s (point_of p) (point_of q) z (before r g s p gg cs ep a.0) (before r g s q gg cs eq a.1) on_line)
    cases (inr a) = not_both r z t (stretch_before r s t z f on_stretch) (all_behind r t (point_of p) (point_of q) z (after r h t p gh ct ep a.0) (after r h t q gh ct eq a.1) on_line)

-- ---- a segment with one end on the ray's line
pub end_hits : (r : Ray) (g h : CrossedLine) (p q : Pt) → IsHit r g h p p → IsHit r g h p q
end_hits r g h p q hit s t cs ct = let w = hit s t cs ct in (w.0, w.1, alone_on (point_of p) (point_of q) w.0 w.2)

pub end_clears : (r : Ray) (g h : CrossedLine) (p q : Pt) → ray_value r (point_of p) ≡ pos 0 → ¬ (ray_value r (point_of q) ≡ pos 0) → IsStretchClear r g h p p → IsStretchClear r g h p q
end_clears r g h p q ep nq clear s t z cs ct a b = clear s t z cs ct a (only_end r (point_of p) (point_of q) z ep nq b (stretch_on_ray r s t z cs.1 ct.1 a))

pub hit_turned : (r : Ray) (g h : CrossedLine) (p q : Pt) → IsHit r g h q p → IsHit r g h p q
hit_turned r g h p q hit s t cs ct = swap s t p q (hit s t cs ct)

pub clear_turned : (r : Ray) (g h : CrossedLine) (p q : Pt) → IsStretchClear r g h q p → IsStretchClear r g h p q
clear_turned r g h p q clear s t z cs ct a b = clear s t z cs ct a (on_segment_sym (point_of p) (point_of q) z b)

-- ---- a segment strictly on one side
pub beside_clears : (r : Ray) (g h : CrossedLine) (p q : Pt) → AreOnOneSide (side_value r p) (side_value r q) → IsStretchClear r g h p q
unfolding side_value
beside_clears r g h p q (inl k) s t z cs ct a b =
    let e = stretch_on_ray r s t z cs.1 ct.1 a in
    let f = value_pos r.a r.b r.c (point_of p) (point_of q) z k.0 k.1 b in
    absurd (omega (arith, ints))
beside_clears r g h p q (inr k) s t z cs ct a b =
    let e = stretch_on_ray r s t z cs.1 ct.1 a in
    let k0 = k.0 in
    let k1 = k.1 in
    let np = neg_value r.a r.b r.c (point_of p) in
    let nq = neg_value r.a r.b r.c (point_of q) in
    let nz = neg_value r.a r.b r.c z in
    let f = value_pos _ _ _ (point_of p) (point_of q) z (subst (λ (x : ℤ). pos 0 <ℤ x) (sym np) (turned _ k0)) (subst (λ (x : ℤ). pos 0 <ℤ x) (sym nq) (turned _ k1)) b in
    clash _ e (subst (λ (x : ℤ). pos 0 <ℤ x) nz f)
  where
    turned : (x : ℤ) → x <ℤ pos 0 → pos 0 <ℤ neg_ℤ x
    turned x h = omega (arith, ints)

    clash : (x : ℤ) → x ≡ pos 0 → pos 0 <ℤ neg_ℤ x → ⊥
    clash x e h = omega (arith, ints)

-- ---- a segment that the ray splits
pub between_hits : (r : Ray) (g h : CrossedLine) (p q : Pt) → IsCrossedLine r g → AreOnTwoSides (side_value r p) (side_value r q) → AllInOrder r g.left g.right p q → AllInOrder r p q h.left h.right → IsHit r g h p q
between_hits r g h p q gg two a b s t cs ct =
    let x = crossing_exists r p q two in
    (x.0, on_stretch r s t x.0 (direction r g gg) cs.1 ct.1 x.1.1 (a s x.0 cs x.1) (b x.0 t x.1 ct), x.1.0)

pub early_clears : (r : Ray) (g h : CrossedLine) (p q : Pt) → IsForward r g h → AllBehind r g.left g.right p q → IsStretchClear r g h p q
early_clears r g h p q fw a s t z cs ct o l = not_both r s z (stretch_after r s t z (fw s t cs ct) o) (a s z cs (l, stretch_on_ray r s t z cs.1 ct.1 o))

pub late_clears : (r : Ray) (g h : CrossedLine) (p q : Pt) → IsForward r g h → AllBehind r p q h.left h.right → IsStretchClear r g h p q
late_clears r g h p q fw a s t z cs ct o l = not_both r z t (stretch_before r s t z (fw s t cs ct) o) (a z t (l, stretch_on_ray r s t z cs.1 ct.1 o) ct)

-- ---- the answers of the code
pub match_map : (b : Bool) (X Y Z W : Type 0) → (X → Z) → (Y → W) → MatchBool b X Y → MatchBool b Z W
match_map true X Y Z W f g h = f h
match_map false X Y Z W f g h = g h

pub match_turned : (b : Bool) (X Y Z W : Type 0) → (X → W) → (Y → Z) → MatchBool b X Y → MatchBool (not b) Z W
match_turned true X Y Z W f g h = f h
match_turned false X Y Z W f g h = g h

pub two_sides_of : (a b : ℤ) → ¬ AreOnOneSide a b → ¬ (a ≡ pos 0) → ¬ (b ≡ pos 0) → AreOnTwoSides a b
two_sides_of a b one na nb = elim (sign_cases a) as (λ _. AreOnTwoSides a b) [
  | inl h ↦ elim (sign_cases b) as (λ _. AreOnTwoSides a b) [
    | inl k ↦ absurd (one (inr (h, k)))
    | inr j ↦ elim j as (λ _. AreOnTwoSides a b) [ inl e ↦ absurd (nb e) | inr k ↦ inr (h, k) ]
  ]
  | inr i ↦ elim i as (λ _. AreOnTwoSides a b) [
    | inl e ↦ absurd (na e)
    | inr h ↦ elim (sign_cases b) as (λ _. AreOnTwoSides a b) [
      | inl k ↦ inl (h, k)
      | inr j ↦ elim j as (λ _. AreOnTwoSides a b) [ inl e ↦ absurd (nb e) | inr k ↦ absurd (one (inl (h, k))) ]
    ]
  ]
]

pub on_ray : (r : Ray) (p : Pt) → side_value r p ≡ pos 0 → ray_value r (point_of p) ≡ pos 0
unfolding side_value
on_ray r p e = e

pub off_ray : (r : Ray) (p : Pt) → ¬ (side_value r p ≡ pos 0) → ¬ (ray_value r (point_of p) ≡ pos 0)
unfolding side_value
off_ray r p n e = n e

-- both ends on the ray's line
pub met_both : (r : Ray) (g h : CrossedLine) (p q : Pt) (b : Bool) → IsCrossedLine r g → IsCrossedLine r h → IsForward r g h → side_value r p ≡ pos 0 → side_value r q ≡ pos 0 → MatchBool b (IsMet g h p q) (IsStretchPassed g h p q) → MatchBool b (IsHit r g h p q) (IsStretchClear r g h p q)
met_both r g h p q b gg gh fw ep eq = match_map b _ _ _ _ (met_hits r g h p q gg gh fw (on_ray r p ep) (on_ray r q eq)) (passed_clears r g h p q gg gh fw (on_ray r p ep) (on_ray r q eq))

-- the first end alone
pub met_first : (r : Ray) (g h : CrossedLine) (p q : Pt) (b : Bool) → IsCrossedLine r g → IsCrossedLine r h → IsForward r g h → side_value r p ≡ pos 0 → ¬ (side_value r q ≡ pos 0) → MatchBool b (IsMet g h p p) (IsStretchPassed g h p p) → MatchBool b (IsHit r g h p q) (IsStretchClear r g h p q)
met_first r g h p q b gg gh fw ep nq m = match_map b _ _ _ _ (end_hits r g h p q) (end_clears r g h p q (on_ray r p ep) (off_ray r q nq)) (met_both r g h p p b gg gh fw ep ep m)

-- the second end alone
pub met_second : (r : Ray) (g h : CrossedLine) (p q : Pt) (b : Bool) → IsCrossedLine r g → IsCrossedLine r h → IsForward r g h → ¬ (side_value r p ≡ pos 0) → side_value r q ≡ pos 0 → MatchBool b (IsMet g h q q) (IsStretchPassed g h q q) → MatchBool b (IsHit r g h p q) (IsStretchClear r g h p q)
met_second r g h p q b gg gh fw np eq m = match_map b _ _ _ _ (hit_turned r g h p q) (clear_turned r g h p q) (met_first r g h q p b gg gh fw eq np m)

-- the line with this number
pub hit_or_clear : (m : Map) (r : Ray) (g h : CrossedLine) (i : ℕ) (l : MapLine) (p q : Pt) (b : Bool) → line_at m i ≡ Some l → IsTrue l.solid → p ≡ l.first → q ≡ l.second
    → MatchBool b (IsHit r g h p q) (IsStretchClear r g h p q) → MatchBool b (IsHitAt m r g h i) (IsClearAt m r g h i)
hit_or_clear m r g h i l p q b e solid f k = match_map b _ _ _ _
    (λ hit. record { line = l; is = e; solid = solid; hit = subst (λ (x : Pt). IsHit r g h x l.second) f (subst (λ (x : Pt). IsHit r g h p x) k hit) })
    (λ clear n is _. subst (λ (x : MapLine). IsStretchClear r g h x.first x.second) (same_line m i l n e is) (subst (λ (x : Pt). IsStretchClear r g h x l.second) f (subst (λ (x : Pt). IsStretchClear r g h p x) k clear)))

pub none_clear : (m : Map) (r : Ray) (g h : CrossedLine) (i : ℕ) → line_at m i ≡ None → IsClearAt m r g h i
none_clear m r g h i e l is solid = absurd (none_is_not_some l (sym e ∙ is))
