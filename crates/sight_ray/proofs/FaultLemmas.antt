-- A ray has one first fault, or it is a sight ray.
use Rattle.std.proofs.Common.{◌≡◌, ℕ, ◌<◌, Bool, true, false, not, arith, refl, sym, ap, ap₂, subst, ◌∙◌, inl, inr, Result, Ok, Err, MatchResult, length, lit<}
use Rattle.sight_names.specs.declared.names.Side.{Side}
use Rattle.sight_names.specs.declared.names.Ray.{Ray}
use Rattle.sight_names.specs.declared.faults.RayFault.{RayFault}
use Rattle.sight_names.specs.declared.faults.RayFault.TheVariants.{Range, BadSide, NotSplit, WrongWay, Backwards, Blocked}
use Rattle.sight_names.specs.Point.{Point, SamePoint, point_of}
use Rattle.sight_names.specs.Plan.{PlanParts}
use Rattle.sight_names.specs.Map.{Map, MapLine, named, Names, map_of}
use Rattle.sight_names.specs.Ray.{IsInRange, SplitsLine, NotBehind, IsCrossing, IsSightRay}
use Rattle.sight_names.proofs.Laws.{on_segment_sym}
use Rattle.mesh_base.proofs.SightLaws.Plans.{line_below}
use Rattle.mesh_base.proofs.SightLaws.Rays.{crossing_there, crossing_only, not_both, not_behind_same, segment_same}
use Rattle.sight_ray.specs.declared.crossed_line.CrossedLine.{CrossedLine}
use Rattle.sight_ray.specs.CrossedLine.{IsCrossedLineOf, CrossingOfLine, AllBehind, AllInOrder, IsFirstHit, AreClearBelow}
use Rattle.sight_ray.specs.RayFault.{RaySplitsSide, IsSplit, Leaves, Arrives, CrossesSide, HasNames, HasSplits, HasCrossings, IsPointBehind, IsRayBlocked, IsRayFault}
use Rattle.sight_ray.proofs.CrossedLineLemmas.{same_line, crossed_line_splits, one_split, line_crosses}
use Rattle.sight_ray.proofs.HitLemmas.{parts_of}
use Rattle.math_base.proofs.Options.{one_value, is_not_there, is_there}
use Rattle.math_base.proofs.Numbers.{below_same_or_above}

pub names_of : (m : Map) (r : Ray) (a b : ℕ) → IsInRange r → Names m r.first a → Names m r.last b → HasNames m r
names_of m r a b h e f = record { range = h; from = is_there (named m r.first) a e; to = is_there (named m r.last) b f }

-- ---- from crossed lines to ways
pub leaves_by : (m : Map) (r : Ray) (g : CrossedLine) → IsCrossedLineOf m r r.first g → g.first_left ≡ not r.first.left → Leaves m r
leaves_by m r g h e = subst (λ (b : Bool). RaySplitsSide m r r.first b) e (crossed_line_splits m r r.first g h)

splits_both : (m : Map) (r : Ray) (g h : CrossedLine) → HasNames m r → IsCrossedLineOf m r r.first g → IsCrossedLineOf m r r.last h → HasSplits m r
splits_both m r g h names gg gh = record { names = names; first = (g.first_left, crossed_line_splits m r r.first g gg); last = (h.first_left, crossed_line_splits m r r.last h gh) }

pub last_unsplit : (m : Map) (r : Ray) (g : CrossedLine) → HasNames m r → IsCrossedLineOf m r r.first g → ¬ IsSplit m r r.last → IsRayFault m r (NotSplit r.last.line)
last_unsplit m r g names gg n = (names, inr (refl, (g.first_left, crossed_line_splits m r r.first g gg), n))

pub wrong_first : (m : Map) (r : Ray) (g h : CrossedLine) → HasNames m r → IsCrossedLineOf m r r.first g → IsCrossedLineOf m r r.last h → g.first_left ≡ r.first.left → IsRayFault m r (WrongWay r.first.line)
wrong_first m r g h names gg gh e = (splits_both m r g h names gg gh, inl (refl, (λ k. one_split m r r.first r.first.left (subst (λ (b : Bool). RaySplitsSide m r r.first b) e (crossed_line_splits m r r.first g gg)) k)))

pub wrong_last : (m : Map) (r : Ray) (g h : CrossedLine) → HasNames m r → IsCrossedLineOf m r r.first g → IsCrossedLineOf m r r.last h → g.first_left ≡ not r.first.left → h.first_left ≡ not r.last.left → IsRayFault m r (WrongWay r.last.line)
wrong_last m r g h names gg gh e f = (splits_both m r g h names gg gh, inr (refl, leaves_by m r g gg e, (λ k. one_split m r r.last r.last.left k (subst (λ (b : Bool). RaySplitsSide m r r.last b) f (crossed_line_splits m r r.last h gh)))))

-- ---- from crossed lines to crossings
pub crossings_of : (m : Map) (r : Ray) (g h : CrossedLine) → HasNames m r → IsCrossedLineOf m r r.first g → IsCrossedLineOf m r r.last h → Leaves m r → Arrives m r → (s t : Point) → CrossingOfLine r g s → CrossingOfLine r h t → HasCrossings m r s t
crossings_of m r g h names gg gh leaves arrives s t cs ct = record {
  names = names;
  leaves = leaves;
  arrives = arrives;
  starts = line_crosses m r r.first g s gg cs;
  stops = line_crosses m r r.last h t gh ct;
}

line_crossed : (m : Map) (r : Ray) (s : Side) (g : CrossedLine) → IsCrossedLineOf m r s g → (z : Point) × CrossingOfLine r g z
line_crossed m r s g h = let x = crossing_there r g.left g.right (parts_of r g h.crossed_line.parts) in (x.0, (x.1, x.2))

pub backwards : (m : Map) (r : Ray) (g h : CrossedLine) → HasNames m r → IsCrossedLineOf m r r.first g → IsCrossedLineOf m r r.last h → Leaves m r → Arrives m r → AllBehind r g.left g.right h.left h.right → IsRayFault m r Backwards
backwards m r g h names gg gh leaves arrives b =
    let s = line_crossed m r r.first g gg in
    let t = line_crossed m r r.last h gh in
    (s.0, t.0, crossings_of m r g h names gg gh leaves arrives s.0 t.0 s.1 t.1, b s.0 t.0 s.1 t.1)

pub blocked : (m : Map) (r : Ray) (g h : CrossedLine) (i : ℕ) → HasNames m r → IsCrossedLineOf m r r.first g → IsCrossedLineOf m r r.last h → Leaves m r → Arrives m r → AllInOrder r g.left g.right h.left h.right → IsFirstHit m r g h i → IsRayFault m r (Blocked i)
blocked m r g h i names gg gh leaves arrives f hit =
    let s = line_crossed m r r.first g gg in
    let t = line_crossed m r r.last h gh in
    let z = hit.hit.hit s.0 t.0 s.1 t.1 in
    record {
      start = s.0;
      stop = t.0;
      crossings = crossings_of m r g h names gg gh leaves arrives s.0 t.0 s.1 t.1;
      forward = f s.0 t.0 s.1 t.1;
      line = hit.hit.line;
      is = hit.hit.is;
      solid = hit.hit.solid;
      point = z.0;
      on_stretch = z.1;
      on_line = z.2;
      least = λ j k l is solid w on_stretch on_line. hit.least j k l is solid s.0 t.0 w s.1 t.1 on_stretch on_line;
    }

pub sight : (p : PlanParts) (r : Ray) (g h : CrossedLine) (a b : ℕ) → IsInRange r → Names (map_of p) r.first a → Names (map_of p) r.last b → IsCrossedLineOf (map_of p) r r.first g → IsCrossedLineOf (map_of p) r r.last h
    → Leaves (map_of p) r → Arrives (map_of p) r → AllInOrder r g.left g.right h.left h.right → AreClearBelow (map_of p) r g h (length p.lines) → IsSightRay (map_of p) r a b
sight p r g h a b range from to gg gh leaves arrives f clear =
    let m = map_of p in
    let s = line_crossed m r r.first g gg in
    let t = line_crossed m r r.last h gh in
    let starts = line_crosses m r r.first g s.0 gg s.1 in
    let stops = line_crosses m r r.last h t.0 gh t.1 in
    record {
      range = range;
      from = from;
      to = to;
      first = leaves.line;
      is_first = leaves.is;
      last = arrives.line;
      is_last = arrives.is;
      leaves = leaves.ends;
      arrives = arrives.ends;
      start = s.0;
      stop = t.0;
      starts = subst (λ (l : MapLine). IsCrossing r l s.0) (same_line m r.first.line starts.line leaves.line starts.is leaves.is) starts.crossing;
      stops = subst (λ (l : MapLine). IsCrossing r l t.0) (same_line m r.last.line stops.line arrives.line stops.is arrives.is) stops.crossing;
      forward = f s.0 t.0 s.1 t.1;
      clear = λ i l is solid z on_stretch on_line. clear i (line_below p i l is) l is solid s.0 t.0 z s.1 t.1 on_stretch on_line;
    }

-- ---- the crossings of a side are one point
one_crossing : (m : Map) (r : Ray) (s : Side) (b : Bool) (z w : Point) → RaySplitsSide m r s b → CrossesSide m r s z → CrossesSide m r s w → SamePoint z w
one_crossing m r s b z w h c d = at_line b h.line h.ends (moved z c) (moved w d)
  where
    moved : (z : Point) → CrossesSide m r s z → IsCrossing r h.line z
    moved z c = subst (λ (l : MapLine). IsCrossing r l z) (same_line m s.line c.line h.line c.is h.is) c.crossing

    at_line : (b : Bool) (l : MapLine) → SplitsLine r l b → IsCrossing r l z → IsCrossing r l w → SamePoint z w
    at_line true l k c d = crossing_only r l.first l.second z w (record { left = k.0; right = k.1 }) c.0 c.1 d.0 d.1
    at_line false l k c d =
        crossing_only r l.second l.first z w (record { left = k.1; right = k.0 }) (on_segment_sym (point_of l.first) (point_of l.second) z c.0) c.1 (on_segment_sym (point_of l.first) (point_of l.second) w d.0) d.1

-- ---- what a sight ray has
sight_crossings : (m : Map) (r : Ray) (a b : ℕ) (s : IsSightRay m r a b) → HasCrossings m r s.start s.stop
sight_crossings m r a b s = record {
  names = names_of m r a b s.range s.from s.to;
  leaves = record { line = s.first; is = s.is_first; ends = s.leaves };
  arrives = record { line = s.last; is = s.is_last; ends = s.arrives };
  starts = record { line = s.first; is = s.is_first; crossing = s.starts };
  stops = record { line = s.last; is = s.is_last; crossing = s.stops };
}

-- ---- what fails
bad_side : (m : Map) (r : Ray) (side : Side) → IsRayFault m r (BadSide side) → HasNames m r → ⊥
bad_side m r side (range, inl k) n = is_not_there _ k.1 n.from
bad_side m r side (range, inr k) n = is_not_there _ k.2 n.to

not_split : (m : Map) (r : Ray) (i : ℕ) → IsRayFault m r (NotSplit i) → IsSplit m r r.first → IsSplit m r r.last → ⊥
not_split m r i (names, inl k) f l = k.1 f
not_split m r i (names, inr k) f l = k.2 l

wrong_way : (m : Map) (r : Ray) (i : ℕ) → IsRayFault m r (WrongWay i) → Leaves m r → Arrives m r → ⊥
wrong_way m r i (splits, inl k) f l = k.1 f
wrong_way m r i (splits, inr k) f l = k.2 l

split_first : (m : Map) (r : Ray) (s t : Point) → HasCrossings m r s t → IsSplit m r r.first
split_first m r s t h = (not r.first.left, h.leaves)

split_last : (m : Map) (r : Ray) (s t : Point) → HasCrossings m r s t → IsSplit m r r.last
split_last m r s t h = (r.last.left, h.arrives)

-- the order of the crossings is one
pub one_order : (m : Map) (r : Ray) (s t u v : Point) → HasCrossings m r s t → HasCrossings m r u v → NotBehind r s t → IsPointBehind r u v → ⊥
one_order m r s t u v h k f b = not_both r u v (not_behind_same r s t u v (one_crossing m r r.first _ s u h.leaves h.starts k.starts) (one_crossing m r r.last _ t v h.arrives h.stops k.stops) f) b

-- ---- a sight ray has no fault
pub no_fault : (m : Map) (r : Ray) (a b : ℕ) → IsSightRay m r a b → (f : RayFault) → IsRayFault m r f → ⊥
no_fault m r a b s Range h = h s.range
no_fault m r a b s (BadSide side) h = bad_side m r side h (names_of m r a b s.range s.from s.to)
no_fault m r a b s (NotSplit i) h = let c = sight_crossings m r a b s in not_split m r i h (split_first m r s.start s.stop c) (split_last m r s.start s.stop c)
no_fault m r a b s (WrongWay i) h = let c = sight_crossings m r a b s in wrong_way m r i h c.leaves c.arrives
no_fault m r a b s Backwards h = one_order m r s.start s.stop h.0 h.1 (sight_crossings m r a b s) h.2 s.forward h.3
no_fault m r a b s (Blocked i) h =
    let c = sight_crossings m r a b s in
    let k = h.crossings in
    s.clear i h.line h.is h.solid h.point
    (segment_same h.start h.stop s.start s.stop h.point (one_crossing m r r.first _ h.start s.start k.leaves k.starts c.starts) (one_crossing m r r.last _ h.stop s.stop k.arrives k.stops c.stops) h.on_stretch)
    h.on_line

-- ---- two faults are one
abbrev stage : RayFault → ℕ
stage Range = 0
stage (BadSide side) = 1
stage (NotSplit i) = 2
stage (WrongWay i) = 3
stage Backwards = 4
stage (Blocked i) = 5

stage_below : (g : RayFault) → stage g < 6
stage_below Range = lit< tt
stage_below (BadSide side) = lit< tt
stage_below (NotSplit i) = lit< tt
stage_below (WrongWay i) = lit< tt
stage_below Backwards = lit< tt
stage_below (Blocked i) = lit< tt

earlier : (m : Map) (r : Ray) (f g : RayFault) → stage f < stage g → IsRayFault m r f → IsRayFault m r g → ⊥
earlier m r Range (BadSide s) lt h k = h k.0
earlier m r Range (NotSplit i) lt h k = h k.0.range
earlier m r Range (WrongWay i) lt h k = h k.0.names.range
earlier m r Range Backwards lt h k = h k.2.names.range
earlier m r Range (Blocked i) lt h k = h k.crossings.names.range
earlier m r (BadSide s) (NotSplit i) lt h k = bad_side m r s h k.0
earlier m r (BadSide s) (WrongWay i) lt h k = bad_side m r s h k.0.names
earlier m r (BadSide s) Backwards lt h k = bad_side m r s h k.2.names
earlier m r (BadSide s) (Blocked i) lt h k = bad_side m r s h k.crossings.names
earlier m r (NotSplit j) (WrongWay i) lt h k = not_split m r j h k.0.first k.0.last
earlier m r (NotSplit j) Backwards lt h k = not_split m r j h (split_first m r k.0 k.1 k.2) (split_last m r k.0 k.1 k.2)
earlier m r (NotSplit j) (Blocked i) lt h k = not_split m r j h (split_first m r k.start k.stop k.crossings) (split_last m r k.start k.stop k.crossings)
earlier m r (WrongWay j) Backwards lt h k = wrong_way m r j h k.2.leaves k.2.arrives
earlier m r (WrongWay j) (Blocked i) lt h k = wrong_way m r j h k.crossings.leaves k.crossings.arrives
earlier m r Backwards (Blocked i) lt h k = one_order m r k.start k.stop h.0 h.1 k.crossings h.2 k.forward h.3
earlier m r f g lt h k = absurd (let b = stage_below g in omega arith)

one_side : (m : Map) (r : Ray) (s t : Side) → IsRayFault m r (BadSide s) → IsRayFault m r (BadSide t) → s ≡ t
one_side m r s t (a, inl h) (b, inl k) = h.0 ∙ sym k.0
one_side m r s t (a, inl h) (b, inr k) = absurd (is_not_there _ h.1 k.1)
one_side m r s t (a, inr h) (b, inl k) = absurd (is_not_there _ k.1 h.1)
one_side m r s t (a, inr h) (b, inr k) = h.0 ∙ sym k.0

one_unsplit : (m : Map) (r : Ray) (i j : ℕ) → IsRayFault m r (NotSplit i) → IsRayFault m r (NotSplit j) → i ≡ j
one_unsplit m r i j (a, inl h) (b, inl k) = h.0 ∙ sym k.0
one_unsplit m r i j (a, inl h) (b, inr k) = absurd (h.1 k.1)
one_unsplit m r i j (a, inr h) (b, inl k) = absurd (k.1 h.1)
one_unsplit m r i j (a, inr h) (b, inr k) = h.0 ∙ sym k.0

one_wrong : (m : Map) (r : Ray) (i j : ℕ) → IsRayFault m r (WrongWay i) → IsRayFault m r (WrongWay j) → i ≡ j
one_wrong m r i j (a, inl h) (b, inl k) = h.0 ∙ sym k.0
one_wrong m r i j (a, inl h) (b, inr k) = absurd (h.1 k.1)
one_wrong m r i j (a, inr h) (b, inl k) = absurd (k.1 h.1)
one_wrong m r i j (a, inr h) (b, inr k) = h.0 ∙ sym k.0

not_below : (m : Map) (r : Ray) (i j : ℕ) → IsRayBlocked m r i → IsRayBlocked m r j → i < j → ⊥
not_below m r i j h k lt =
    let c = h.crossings in
    let d = k.crossings in
    k.least i lt h.line h.is h.solid h.point
    (segment_same h.start h.stop k.start k.stop h.point (one_crossing m r r.first _ h.start k.start c.leaves c.starts d.starts) (one_crossing m r r.last _ h.stop k.stop c.arrives c.stops d.stops) h.on_stretch)
    h.on_line

one_blocked : (m : Map) (r : Ray) (i j : ℕ) → IsRayBlocked m r i → IsRayBlocked m r j → i ≡ j
one_blocked m r i j h k = elim (below_same_or_above i j) as (λ _. i ≡ j) [
  | inl lt ↦ absurd (not_below m r i j h k lt)
  | inr c ↦ elim c as (λ _. i ≡ j) [ inl e ↦ e | inr lt ↦ absurd (not_below m r j i k h lt) ]
]

together : (m : Map) (r : Ray) (f g : RayFault) → stage f ≡ stage g → IsRayFault m r f → IsRayFault m r g → f ≡ g
together m r Range Range e h k = refl
together m r (BadSide s) (BadSide t) e h k = ap BadSide (one_side m r s t h k)
together m r (NotSplit i) (NotSplit j) e h k = ap NotSplit (one_unsplit m r i j h k)
together m r (WrongWay i) (WrongWay j) e h k = ap WrongWay (one_wrong m r i j h k)
together m r Backwards Backwards e h k = refl
together m r (Blocked i) (Blocked j) e h k = ap Blocked (one_blocked m r i j h k)
together m r f g e h k = absurd (omega arith)

pub one_fault : (m : Map) (r : Ray) (f g : RayFault) → IsRayFault m r f → IsRayFault m r g → f ≡ g
one_fault m r f g h k = elim (below_same_or_above (stage f) (stage g)) as (λ _. f ≡ g) [
  | inl lt ↦ absurd (earlier m r f g lt h k)
  | inr c ↦ elim c as (λ _. f ≡ g) [ inl e ↦ together m r f g e h k | inr lt ↦ absurd (earlier m r g f lt k h) ]
]

-- ---- the one answer

pub sight_answer : (m : Map) (r : Ray) (o : Result (ℕ × ℕ) RayFault) → MatchResult o (λ p. IsSightRay m r p.0 p.1) (λ f. IsRayFault m r f) → (a b : ℕ) → IsSightRay m r a b → o ≡ Ok (a, b)
sight_answer m r (Ok p) h a b s = ap Ok (pairs (one_value _ p.0 a h.from s.from) (one_value _ p.1 b h.to s.to))
  where
    pairs : p.0 ≡ a → p.1 ≡ b → p ≡ (a, b)
    pairs e f = ap₂ (λ (x y : ℕ). (x, y)) e f
sight_answer m r (Err f) h a b s = absurd (no_fault m r a b s f h)

pub fault_answer : (m : Map) (r : Ray) (o : Result (ℕ × ℕ) RayFault) → MatchResult o (λ p. IsSightRay m r p.0 p.1) (λ f. IsRayFault m r f) → (f : RayFault) → IsRayFault m r f → o ≡ Err f
fault_answer m r (Ok p) h f k = absurd (no_fault m r p.0 p.1 h f k)
fault_answer m r (Err g) h f k = ap Err (one_fault m r g f h k)
