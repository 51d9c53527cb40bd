-- Where a ray is drawn: its two spots are the exact crossings, cut down.
use Rattle.std.proofs.Common.{◌≡◌, ◌∙◌, ℕ, zero, ◌+◌, ◌*◌, ◌/◌, ◌<◌, ◌≤◌, inl, inr, List, [], ◌∷◌, ◌++◌, Option, Some, Bool, true, false, not, map, ℤ, pos, negsuc, ◌+ℤ◌, ◌-ℤ◌, ◌*ℤ◌, neg_ℤ, ◌≤ℤ◌, ◌<ℤ◌, refl, sym, subst, arith}
use Rattle.std.specs.Int.RustNames.{unsigned_abs}
use Rattle.std.proofs.lemmas.Int.{ints}
use Rattle.std.proofs.Math.Nat.{div-mul-le_self, lt-div-mul-add}
use Rattle.math_base.proofs.Quoting.{quoting, by_ring, combine1, combine2, combine3}
use Rattle.math_base.proofs.Signs.{mul-nonneg, mul-pos, nonneg-of-mul, pos-of-mul, same-of-mul}
use Rattle.math_base.proofs.Small.{le_of_difference, lt_of_difference, nat_nonneg, zero_by_second}
use Rattle.sight_names.specs.declared.names.Pt.{Pt}
use Rattle.sight_names.specs.declared.names.Ray.{Ray}
use Rattle.sight_names.specs.declared.names.Triangle.{Triangle}
use Rattle.sight_names.specs.Map.{Map, MapLine, line_at}
use Rattle.sight_names.specs.Point.{Point}
use Rattle.sight_names.specs.Points.{points_of}
use Rattle.sight_names.specs.Ray.{IsCrossing, IsSightRay, SplitsLine, ray_value}
use Rattle.sight_names.proofs.Portals.{scale_above}
use Rattle.geom_exact.specs.Formulas.{AreOnTwoSides, side_value}
use Rattle.geom_exact.proofs.SegmentLemmas.{IsWeighted, on}
use Rattle.map_picture.specs.Frame.{place_across, place_down, frame_of_points}
use Rattle.map_picture.specs.Crossings.{IsCutDown, IsSpotOf, crossing_spot}
use Rattle.map_picture.specs.declared.sheet.Subject.TheVariants as subject
use Rattle.map_picture.specs.Picture.{NamedParts, Sight, pair_faces, pair_rings, pair_tint, sight_between, sight_elements, sight_picture}
use Rattle.map_picture.specs.Laws.{Has, ShowsRay}
use Rattle.map_picture.proofs.Extras.{rings_words, sight_words}
use Rattle.map_picture.proofs.Framed.{read_back}
use Rattle.map_picture.proofs.MapEnds.{has_ends}
use Rattle.map_picture.proofs.Pieces.{has_before, has_over}

-- ---- a quotient cut down

at_least : (c u t d w n : ℤ) → pos 0 <ℤ w → pos 0 ≤ℤ d → u *ℤ w ≡ d *ℤ n → (t *ℤ w) ≤ℤ (c *ℤ n) → (t *ℤ d) ≤ℤ (c *ℤ u)
at_least c u t d w n above nonneg e h =
    let grown : pos 0 ≤ℤ (d *ℤ (c *ℤ n -ℤ t *ℤ w)) = mul-nonneg d (c *ℤ n -ℤ t *ℤ w) nonneg (omega (arith, ints)) in
    let same : w *ℤ (c *ℤ u -ℤ t *ℤ d) ≡ d *ℤ (c *ℤ n -ℤ t *ℤ w) =
    combine1 c e (by_ring (c ∷ u ∷ t ∷ d ∷ w ∷ n ∷ []) _ _ (search quoting depth 60 fits 200000) (search quoting depth 60 fits 200000) tt) in
    le_of_difference (c *ℤ u) (t *ℤ d) (nonneg-of-mul w (c *ℤ u -ℤ t *ℤ d) above (subst (λ (z : ℤ). pos 0 ≤ℤ z) (sym same) grown))

below_next : (c u t d w n : ℤ) → pos 0 <ℤ w → pos 0 <ℤ d → u *ℤ w ≡ d *ℤ n → (c *ℤ n) <ℤ (t *ℤ w) → (c *ℤ u) <ℤ (t *ℤ d)
below_next c u t d w n above positive e h =
    let grown : pos 0 <ℤ (d *ℤ (t *ℤ w -ℤ c *ℤ n)) = mul-pos d (t *ℤ w -ℤ c *ℤ n) positive (omega (arith, ints)) in
    let same : w *ℤ (t *ℤ d -ℤ c *ℤ u) ≡ d *ℤ (t *ℤ w -ℤ c *ℤ n) =
    combine1 (neg_ℤ c) e (by_ring (c ∷ u ∷ t ∷ d ∷ w ∷ n ∷ []) _ _ (search quoting depth 60 fits 200000) (search quoting depth 60 fits 200000) tt) in
    lt_of_difference (t *ℤ d) (c *ℤ u) (pos-of-mul w (t *ℤ d -ℤ c *ℤ u) above (subst (λ (z : ℤ). pos 0 <ℤ z) (sym same) grown))

as_whole : (t w n : ℕ) → t * w ≤ n → (pos t *ℤ pos w) ≤ℤ pos n
as_whole t w n h = omega (arith, ints, h)

as_next : (t w n : ℕ) → n < t * w + w → pos n <ℤ ((pos t +ℤ pos 1) *ℤ pos w)
as_next t w n h =
    let e : (pos t +ℤ pos 1) *ℤ pos w ≡ pos t *ℤ pos w +ℤ pos w = by_ring (pos t ∷ pos w ∷ []) _ _ (search quoting depth 60 fits 200000) (search quoting depth 60 fits 200000) tt in
    omega (arith, ints, h, e)

cut_down : (u : ℤ) (d w n : ℕ) → pos 0 <ℤ pos d → 0 < w → u *ℤ pos w ≡ pos d *ℤ pos n → IsCutDown (1000 * n / w) u d
cut_down u d w n positive some e = record {
  least = at_least (pos 1000) u (pos (1000 * n / w)) (pos d) (pos w) (pos n) (above w some) (nat_nonneg d) e (as_whole (1000 * n / w) w (1000 * n) (div-mul-le_self (1000 * n) w));
  next = below_next (pos 1000) u (pos (1000 * n / w) +ℤ pos 1) (pos d) (pos w) (pos n) (above w some) positive e (as_next (1000 * n / w) w (1000 * n) (lt-div-mul-add some));
}
  where
    above : (k : ℕ) → 0 < k → pos 0 <ℤ pos k
    above k h = omega (arith, ints, h)

-- ---- where the crossing is

-- the side of a mean is the mean of the sides
mean_side : (ray : Ray) (p q : Pt) (m n : ℤ) (z : Point) → IsWeighted p q m n z → (m +ℤ n) *ℤ ray_value ray z ≡ pos z.d *ℤ (m *ℤ side_value ray p +ℤ n *ℤ side_value ray q)
unfolding side_value
mean_side ray p q m n z h =
    combine2 ray.a ray.b h.x h.y
    (by_ring (ray.a ∷ ray.b ∷ ray.c ∷ p.x ∷ p.y ∷ q.x ∷ q.y ∷ m ∷ n ∷ z.x ∷ z.y ∷ pos z.d ∷ []) _ _ (search quoting depth 60 fits 200000) (search quoting depth 60 fits 200000) tt)

-- with g, h along and s, t beside: m s + n t = 0 puts the mean at (s h - t g) / (s - t)
placed : (m n d v s t g h : ℤ) → d *ℤ (m *ℤ s +ℤ n *ℤ t) ≡ pos 0 → (m +ℤ n) *ℤ v ≡ d *ℤ (m *ℤ g +ℤ n *ℤ h) → (m +ℤ n) *ℤ (v *ℤ (s -ℤ t)) ≡ (m +ℤ n) *ℤ (d *ℤ (s *ℤ h -ℤ t *ℤ g))
placed m n d v s t g h z e = combine2 (g -ℤ h) (s -ℤ t) z e (by_ring (m ∷ n ∷ d ∷ v ∷ s ∷ t ∷ g ∷ h ∷ []) _ _ (search quoting depth 60 fits 200000) (search quoting depth 60 fits 200000) tt)

crossing_at : (ray : Ray) (p q : Pt) (m n : ℤ) (z : Point) → IsWeighted p q m n z → ray_value ray z ≡ pos 0 → (v g h : ℤ) → v *ℤ (m +ℤ n) ≡ pos z.d *ℤ (m *ℤ g +ℤ n *ℤ h)
    → v *ℤ (side_value ray p -ℤ side_value ray q) ≡ pos z.d *ℤ (side_value ray p *ℤ h -ℤ side_value ray q *ℤ g)
crossing_at ray p q m n z k zero_there v g h e =
    same-of-mul (m +ℤ n) _ _ k.weighted
    (placed m n (pos z.d) v (side_value ray p) (side_value ray q) g h
    (sym (mean_side ray p q m n z k) ∙ zero_by_second (m +ℤ n) (ray_value ray z) zero_there)
    (turned v (m +ℤ n) _ e))
  where
    turned : (v w x : ℤ) → v *ℤ w ≡ x → w *ℤ v ≡ x
    turned v w x e = combine1 (pos 1) e (by_ring (v ∷ w ∷ x ∷ []) _ _ (search quoting depth 60 fits 200000) (search quoting depth 60 fits 200000) tt)

-- from the left edge
from_left : (v s t d a p q g h : ℤ) → g ≡ a +ℤ p → h ≡ a +ℤ q → v *ℤ (s -ℤ t) ≡ d *ℤ (s *ℤ h -ℤ t *ℤ g) → (v -ℤ a *ℤ d) *ℤ (s -ℤ t) ≡ d *ℤ (s *ℤ q -ℤ t *ℤ p)
from_left v s t d a p q g h first second e =
    combine3 (neg_ℤ (d *ℤ t)) (d *ℤ s) (pos 1) first second e
    (by_ring (v ∷ s ∷ t ∷ d ∷ a ∷ p ∷ q ∷ g ∷ h ∷ []) _ _ (search quoting depth 60 fits 200000) (search quoting depth 60 fits 200000) tt)

-- from the upper edge
from_top : (v s t d a p q g h : ℤ) → g ≡ a -ℤ p → h ≡ a -ℤ q → v *ℤ (s -ℤ t) ≡ d *ℤ (s *ℤ h -ℤ t *ℤ g) → (a *ℤ d -ℤ v) *ℤ (s -ℤ t) ≡ d *ℤ (s *ℤ q -ℤ t *ℤ p)
from_top v s t d a p q g h first second e =
    combine3 (d *ℤ t) (neg_ℤ (d *ℤ s)) (negsuc 0) first second e
    (by_ring (v ∷ s ∷ t ∷ d ∷ a ∷ p ∷ q ∷ g ∷ h ∷ []) _ _ (search quoting depth 60 fits 200000) (search quoting depth 60 fits 200000) tt)

-- with weights that aren't below 0
weighed_left : (u s t d f g p q : ℤ) → f ≡ s → g ≡ neg_ℤ t → u *ℤ (s -ℤ t) ≡ d *ℤ (s *ℤ q -ℤ t *ℤ p) → u *ℤ (f +ℤ g) ≡ d *ℤ (g *ℤ p +ℤ f *ℤ q)
weighed_left u s t d f g p q first second e =
    combine3 (u -ℤ d *ℤ q) (u -ℤ d *ℤ p) (pos 1) first second e
    (by_ring (u ∷ s ∷ t ∷ d ∷ f ∷ g ∷ p ∷ q ∷ []) _ _ (search quoting depth 60 fits 200000) (search quoting depth 60 fits 200000) tt)

weighed_right : (u s t d f g p q : ℤ) → f ≡ neg_ℤ s → g ≡ t → u *ℤ (s -ℤ t) ≡ d *ℤ (s *ℤ q -ℤ t *ℤ p) → u *ℤ (f +ℤ g) ≡ d *ℤ (g *ℤ p +ℤ f *ℤ q)
weighed_right u s t d f g p q first second e =
    combine3 (u -ℤ d *ℤ q) (u -ℤ d *ℤ p) (negsuc 0) first second e
    (by_ring (u ∷ s ∷ t ∷ d ∷ f ∷ g ∷ p ∷ q ∷ []) _ _ (search quoting depth 60 fits 200000) (search quoting depth 60 fits 200000) tt)

abs_above : (z : ℤ) → pos 0 <ℤ z → pos (unsigned_abs z) ≡ z
abs_above (pos n) h = refl
abs_above (negsuc n) h = absurd (omega (arith, ints))

abs_below : (z : ℤ) → z <ℤ pos 0 → pos (unsigned_abs z) ≡ neg_ℤ z
abs_below (pos n) h = absurd (omega (arith, ints))
abs_below (negsuc n) h = refl

weighed : (u s t d : ℤ) (p q : ℕ) → AreOnTwoSides s t → u *ℤ (s -ℤ t) ≡ d *ℤ (s *ℤ pos q -ℤ t *ℤ pos p)
    → u *ℤ (pos (unsigned_abs s) +ℤ pos (unsigned_abs t)) ≡ d *ℤ (pos (unsigned_abs t) *ℤ pos p +ℤ pos (unsigned_abs s) *ℤ pos q)
weighed u s t d p q (inl h) e = weighed_left u s t d (pos (unsigned_abs s)) (pos (unsigned_abs t)) (pos p) (pos q) (abs_above s h.0) (abs_below t h.1) e
weighed u s t d p q (inr h) e = weighed_right u s t d (pos (unsigned_abs s)) (pos (unsigned_abs t)) (pos p) (pos q) (abs_below s h.0) (abs_above t h.1) e

some_weight : (s t : ℤ) → AreOnTwoSides s t → 0 < unsigned_abs s + unsigned_abs t
some_weight s t (inl h) = let e = abs_above s h.0 in let a = h.0 in omega (arith, ints, e, a)
some_weight s t (inr h) = let e = abs_above t h.1 in let a = h.1 in omega (arith, ints, e, a)

cut : (u s t : ℤ) (d p q : ℕ) → pos 0 <ℤ pos d → AreOnTwoSides s t → u *ℤ (s -ℤ t) ≡ pos d *ℤ (s *ℤ pos q -ℤ t *ℤ pos p)
    → IsCutDown (1000 * (unsigned_abs t * p + unsigned_abs s * q) / (unsigned_abs s + unsigned_abs t)) u d
cut u s t d p q positive two e = cut_down u d (unsigned_abs s + unsigned_abs t) (unsigned_abs t * p + unsigned_abs s * q) positive (some_weight s t two) (weighed u s t (pos d) p q two e)

-- ---- the spots

module _ (m : Map) (r : Ray) where
  pub two_sides : (l : MapLine) (left : Bool) → SplitsLine r l left → AreOnTwoSides (side_value r l.first) (side_value r l.second)
  unfolding side_value
  two_sides l true h = inl h
  two_sides l false h = inr h

  spot_of : (i : ℕ) (l : MapLine) → line_at m i ≡ Some l → AreOnTwoSides (side_value r l.first) (side_value r l.second) → (z : Point) → IsCrossing r l z
      → IsSpotOf (frame_of_points (points_of m)) z (crossing_spot (frame_of_points (points_of m)) r l.first l.second)
  spot_of i l at two z c =
      let f = frame_of_points (points_of m) in
      let ends = has_ends m i l at in
      let first = read_back (points_of m) l.first ends.0 in
      let second = read_back (points_of m) l.second ends.1 in
      let g = on l.first l.second z c.0 in
      let s = side_value r l.first in
      let t = side_value r l.second in
      record {
        across = cut (z.x -ℤ f.left *ℤ pos z.d) s t z.d (place_across f l.first) (place_across f l.second) (scale_above z) two
            (from_left z.x s t (pos z.d) f.left (pos (place_across f l.first)) (pos (place_across f l.second)) l.first.x l.second.x first.x second.x
            (crossing_at r l.first l.second g.0 g.1 z g.2 c.1 z.x l.first.x l.second.x g.2.x));
        down = cut (f.top *ℤ pos z.d -ℤ z.y) s t z.d (place_down f l.first) (place_down f l.second) (scale_above z) two
            (from_top z.y s t (pos z.d) f.top (pos (place_down f l.first)) (pos (place_down f l.second)) l.first.y l.second.y first.y second.y
            (crossing_at r l.first l.second g.0 g.1 z g.2 c.1 z.y l.first.y l.second.y g.2.y));
      }

  has_sight : (o p : Option MapLine) (first last : MapLine) → o ≡ Some first → p ≡ Some last → Has (sight_between r o p) (Sight r first last)
  has_sight o p first last is is_too =
      subst (λ (x : Option MapLine). Has (sight_between r x p) (Sight r first last)) (sym is)
      (subst (λ (x : Option MapLine). Has (sight_between r (Some first) x) (Sight r first last)) (sym is_too) (zero, refl))

pub ray_drawn : (name : NamedParts) (m : Map) (groups : List (List ℕ)) (ts : List Triangle) (labels : List (Option ℕ)) (a b f k : ℕ) (r : Ray) → IsSightRay m r f k → ShowsRay m r (sight_picture name m groups ts labels a b r)
ray_drawn name m groups ts labels a b f k r s = record {
  first = s.first;
  last = s.last;
  is_first = s.is_first;
  is_last = s.is_last;
  has = has_over name (subject.Pair a b) m (pair_faces groups ts labels a b) (sight_elements m r ++ pair_rings m groups ts labels a b) (Sight r s.first s.last) (has_before (sight_elements m r) (pair_rings m groups ts labels a b) (Sight r s.first s.last) (has_sight m r (line_at m r.first.line) (line_at m r.last.line) s.first s.last s.is_first s.is_last));
  once = λ i j p q k l n o at there. (sight_words name (subject.Pair a b) m ts labels (map (pair_tint a b) groups) groups (pair_rings m groups ts labels a b) (rings_words m groups ts labels a b) r).ray_once i j (Sight p k l) (Sight q n o) at there refl refl;
  start = λ z c. spot_of m r r.first.line s.first s.is_first (two_sides m r s.first (not r.first.left) s.leaves) z c;
  stop = λ z c. spot_of m r r.last.line s.last s.is_last (two_sides m r s.last r.last.left s.arrives) z c;
}
