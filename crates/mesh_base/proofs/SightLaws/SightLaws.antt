-- What a sight ray tells about its sectors.
use Rattle.std.proofs.Common.{◌≡◌, ℕ, ℤ, pos, ◌+ℤ◌, ◌*ℤ◌, ◌-ℤ◌, ◌≤ℤ◌, ◌<ℤ◌, neg_ℤ, ◌≤◌, arith, refl, sym, subst, inl, inr, [], ◌∷◌, Some, None, Option, option_and_then, ◌↔◌, Bool, true, false, not}
use borrow.Author.Differences.{ints}
use Rattle.math_base.proofs.Quoting.{quoting, by_ring, combine2}
use Rattle.math_base.proofs.Signs.{mul-le, le-of-mul, same-of-mul}
use Rattle.sight_names.specs.declared.names.Pt.{Pt}
use Rattle.sight_names.specs.declared.names.Side.{Side}
use Rattle.sight_names.specs.declared.names.Ray.{Ray}
use Rattle.sight_names.specs.Point.{Point, point_of, SamePoint, OnSegment}
use Rattle.sight_names.specs.Map.{Map, MapLine, line_at, sector_on, IsMap, Names}
use Rattle.sight_names.specs.Path.{MissesSolid, OnNoLine, Touches, InSector}
use Rattle.sight_names.specs.Sound.{LinesMeetAtEnds}
use Rattle.sight_names.specs.Sees.{Sees}
use Rattle.sight_names.specs.Ray.{IsInRange, ray_value, along, NotBehind, SplitsLine, IsSightRay}
use Rattle.sight_names.proofs.Laws.{on_segment_sym, misses_sym, same_point_sym, sees_names}
use Rattle.mesh_base.specs.SightLaws.Laws.{IsOpenRay, AreInSight}
use Rattle.plane_base.proofs.Vec.{V, On}
use Rattle.mesh_base.proofs.SightLaws.Bridge.{vec, on_of_segment, segment_of_on}
use Rattle.mesh_base.proofs.SightLaws.Paths.{free_first, on_same}
use Rattle.mesh_base.proofs.SightLaws.Rays.{Behind, order, behind_not, on_stretch, stretch_on_ray, stretch_after, stretch_before, split_direction, split_crossing, along_same, turned, turned_not_behind, turned_behind, turned_splits, turned_crossing}
use Rattle.mesh_base.proofs.SightLaws.StepOff.{StepOff, step_off, distance, distance_pos}
use Rattle.math_base.proofs.Options.{none_is_not_some}
use Rattle.math_base.proofs.Small.{neg_of_negated_pos, nonneg_of_pos, abs_negated}
use Rattle.math_base.proofs.Bools.{not_not}
use Rattle.sight_names.proofs.Portals.{scale_above}

-- ---- the ray the other way
pub turned_range : (r : Ray) → IsInRange r → IsInRange (turned r)
turned_range r h = record { a = abs_negated r.a _ h.a; b = abs_negated r.b _ h.b; c = abs_negated r.c _ h.c }

turned_arrives : (r : Ray) (l : MapLine) (b : Bool) → SplitsLine r l b → SplitsLine (turned r) l (not b)
turned_arrives r l b h = turned_splits r l (not b) (subst (λ (x : Bool). SplitsLine r l x) (sym (not_not b)) h)

pub turned_sight : (m : Map) (r : Ray) (a b : ℕ) → IsSightRay m r a b → IsSightRay m (turned r) b a
turned_sight m r a b h = record {
  range = turned_range r h.range;
  from = h.to;
  to = h.from;
  first = h.last;
  is_first = h.is_last;
  last = h.first;
  is_last = h.is_first;
  leaves = turned_arrives r h.last r.last.left h.arrives;
  arrives = turned_splits r h.first r.first.left h.leaves;
  start = h.stop;
  stop = h.start;
  starts = turned_crossing r h.last h.stop h.stops;
  stops = turned_crossing r h.first h.start h.starts;
  forward = turned_not_behind r h.start h.stop h.forward;
  clear = λ i l e s. misses_sym h.start h.stop l (h.clear i l e s);
}

-- ---- an open ray joins its sides
pub open_of_sight : (m : Map) (r : Ray) (a b : ℕ) → IsSightRay m r a b → IsOpenRay m r
open_of_sight m r a b h = record { first = h.first; is_first = h.is_first; last = h.last; is_last = h.is_last; leaves = h.leaves; arrives = h.arrives; start = h.start; stop = h.stop; starts = h.starts; stops = h.stops; forward = h.forward; clear = h.clear }

not_strict : (r : Ray) (x z : Point) → SamePoint z x → Behind r x z → ⊥
not_strict r x z s b = let e = along_same r z x s in omega (arith, ints)

later : (r : Ray) (p q s : Point) → NotBehind r p q → NotBehind r q s → NotBehind r p s
later r p q s h k = le-of-mul (pos q.d) (along r p *ℤ pos s.d) (along r s *ℤ pos p.d) (scale_above q) (chain (along r p) (along r q) (along r s) (pos p.d) (pos q.d) (pos s.d) (nonneg_of_pos _ (scale_above p)) (nonneg_of_pos _ (scale_above s)) h k)
  where
    swap : (d x e : ℤ) → d *ℤ (x *ℤ e) ≡ e *ℤ (x *ℤ d)
    swap d x e = by_ring (d ∷ x ∷ e ∷ []) _ _ (search quoting depth 60 fits 200000) (search quoting depth 60 fits 200000) tt

    chain : (hp hq hs pd qd sd : ℤ) → pos 0 ≤ℤ pd → pos 0 ≤ℤ sd → (hp *ℤ qd) ≤ℤ (hq *ℤ pd) → (hq *ℤ sd) ≤ℤ (hs *ℤ qd) → (qd *ℤ (hp *ℤ sd)) ≤ℤ (qd *ℤ (hs *ℤ pd))
    chain hp hq hs pd qd sd hpd hsd h k =
        let a = mul-le sd (hp *ℤ qd) (hq *ℤ pd) hsd h in
        let b = mul-le pd (hq *ℤ sd) (hs *ℤ qd) hpd k in
        let c = swap sd hp qd in
        let d = swap sd hq pd in
        let e = swap pd hs qd in
        omega (arith, ints)

-- what lies between the points before start and behind stop misses the solid lines
stretched : (m : Map) (r : Ray) (h : IsOpenRay m r) → StepOff m r r.first.line r.first.left h.start → StepOff m (turned r) r.last.line r.last.left h.stop → AreInSight m r.first r.last
stretched m r h s t =
    let hn = split_direction r h.first (not r.first.left) h.leaves in
    let eq : ray_value r t.p ≡ pos 0 = back_zero r t.p t.on_ray in
    let q_after : Behind r t.p h.stop = turned_behind r h.stop t.p t.before in
    let p_first = behind_not r h.start s.p s.before in
    let q_last = behind_not r t.p h.stop q_after in
    let forward : NotBehind r s.p t.p = later r s.p h.stop t.p (later r s.p h.start h.stop p_first h.forward) q_last in
    record {
      p = s.p;
      q = t.p;
      from = s.touches;
      to = t.touches;
      clear = λ i l e solid z o on_line.
          let ez = stretch_on_ray r s.p t.p z s.on_ray eq o in
          elim (order r h.start z) as (λ _. ⊥) [
            | inr b ↦ not_strict r h.start z (s.only i l z e (on_stretch r s.p h.start z hn s.on_ray h.starts.1 ez (stretch_after r s.p t.p z forward o) (behind_not r h.start z b)) on_line) b
            | inl nb ↦ elim (order r z h.stop) as (λ _. ⊥) [
              | inr b ↦ not_strict2 r z h.stop (t.only i l z e (on_segment_sym h.stop t.p z (on_stretch r h.stop t.p z hn h.stops.1 eq ez (behind_not r z h.stop b) (stretch_before r s.p t.p z forward o))) on_line) b
              | inl na ↦ h.clear i l e solid z (on_stretch r h.start h.stop z hn h.starts.1 h.stops.1 ez nb na) on_line
            ]
          ];
    }
  where
    back_zero : (r : Ray) (p : Point) → ray_value (turned r) p ≡ pos 0 → ray_value r p ≡ pos 0
    back_zero r p e = ring r.a r.b r.c p.x p.y (pos p.d) e
      where
        ring : (a b c x y d : ℤ) → neg_ℤ a *ℤ x +ℤ neg_ℤ b *ℤ y +ℤ neg_ℤ c *ℤ d ≡ pos 0 → a *ℤ x +ℤ b *ℤ y +ℤ c *ℤ d ≡ pos 0
        ring a b c x y d e = let f : neg_ℤ a *ℤ x +ℤ neg_ℤ b *ℤ y +ℤ neg_ℤ c *ℤ d ≡ neg_ℤ (a *ℤ x +ℤ b *ℤ y +ℤ c *ℤ d) = by_ring (a ∷ b ∷ c ∷ x ∷ y ∷ d ∷ []) _ _ (search quoting depth 60 fits 200000) (search quoting depth 60 fits 200000) tt in omega (arith, ints)

    not_strict2 : (r : Ray) (z x : Point) → SamePoint z x → Behind r z x → ⊥
    not_strict2 r z x s b = let e = along_same r z x s in omega (arith, ints)

pub open_joins : (m : Map) (r : Ray) → IsMap m → LinesMeetAtEnds m → IsOpenRay m r → AreInSight m r.first r.last
open_joins m r is_map ends h =
    let s = step_off m r r.first.line h.first r.first.left h.start is_map ends h.is_first h.leaves h.starts in
    let t = step_off m (turned r) r.last.line h.last r.last.left h.stop is_map ends h.is_last (turned_arrives r h.last r.last.left h.arrives) (turned_crossing r h.last h.stop h.stops) in
    stretched m r h s t

-- a point that touches a side is on no line
touching_free : (m : Map) (p : Point) (s : Side) → Touches m p s → OnNoLine m p
touching_free m p s t = free_first m p t.path.0 t.q t.path.1

pub open_sees : (m : Map) (r : Ray) (a b : ℕ) → IsMap m → LinesMeetAtEnds m → IsOpenRay m r → Names m r.first a → Names m r.last b → Sees m a b
open_sees m r a b is_map ends h from to =
    let j = open_joins m r is_map ends h in
    record {
      p = j.p;
      q = j.q;
      from = record { free = touching_free m j.p r.first j.from; side = r.first; touches = j.from; names = from };
      to = record { free = touching_free m j.q r.last j.to; side = r.last; touches = j.to; names = to };
      clear = j.clear;
    }

-- ---- a named side is touched, so its sector sees itself
-- the line between u and v, halfway
abbrev halfway : Side → Pt → Pt → Ray
halfway s u v = record { first = s; last = s; a = pos 2 *ℤ (u.x -ℤ v.x); b = pos 2 *ℤ (u.y -ℤ v.y); c = (v.x *ℤ v.x +ℤ v.y *ℤ v.y) -ℤ (u.x *ℤ u.x +ℤ u.y *ℤ u.y) }

halfway_first : (s : Side) (u v : Pt) → ray_value (halfway s u v) (point_of u) ≡ distance u v
halfway_first s u v = ring u.x u.y v.x v.y
  where
    ring : (ux uy vx vy : ℤ) → pos 2 *ℤ (ux -ℤ vx) *ℤ ux +ℤ pos 2 *ℤ (uy -ℤ vy) *ℤ uy +ℤ ((vx *ℤ vx +ℤ vy *ℤ vy) -ℤ (ux *ℤ ux +ℤ uy *ℤ uy)) *ℤ pos 1 ≡ (ux -ℤ vx) *ℤ (ux -ℤ vx) +ℤ (uy -ℤ vy) *ℤ (uy -ℤ vy)
    ring ux uy vx vy = by_ring (ux ∷ uy ∷ vx ∷ vy ∷ []) _ _ (search quoting depth 60 fits 200000) (search quoting depth 60 fits 200000) tt

halfway_second : (s : Side) (u v : Pt) → ray_value (halfway s u v) (point_of v) ≡ neg_ℤ (distance u v)
halfway_second s u v = ring u.x u.y v.x v.y
  where
    ring : (ux uy vx vy : ℤ) → pos 2 *ℤ (ux -ℤ vx) *ℤ vx +ℤ pos 2 *ℤ (uy -ℤ vy) *ℤ vy +ℤ ((vx *ℤ vx +ℤ vy *ℤ vy) -ℤ (ux *ℤ ux +ℤ uy *ℤ uy)) *ℤ pos 1 ≡ neg_ℤ ((ux -ℤ vx) *ℤ (ux -ℤ vx) +ℤ (uy -ℤ vy) *ℤ (uy -ℤ vy))
    ring ux uy vx vy = by_ring (ux ∷ uy ∷ vx ∷ vy ∷ []) _ _ (search quoting depth 60 fits 200000) (search quoting depth 60 fits 200000) tt

pub side_touched : (m : Map) (s : Side) (l : MapLine) → IsMap m → LinesMeetAtEnds m → line_at m s.line ≡ Some l → (p : Point) × Touches m p s
side_touched m s l is_map ends e = by_side s.left (is_map s.line l e).differ
  where
    up : (x y : ℤ) → x ≡ y → pos 0 <ℤ y → pos 0 <ℤ x
    up x y e h = omega (arith, ints)

    touch : (r : Ray) (left : Bool) → SplitsLine r l (not left) → (p : Point) × Touches m p (record { line = s.line; left = left })
    touch r left sp = let c = split_crossing r l (not left) sp in let t = step_off m r s.line l left c.0 is_map ends e sp c.1 in (t.p, t.touches)

    by_side : (left : Bool) → (l.first ≡ l.second → ⊥) → (p : Point) × Touches m p (record { line = s.line; left = left })
    by_side false n = let d = distance_pos l.first l.second n in touch (halfway s l.first l.second) false (up _ _ (halfway_first s l.first l.second) d, neg_of_negated_pos _ _ (halfway_second s l.first l.second) d)
    by_side true n = let d = distance_pos l.second l.first (λ x. n (sym x)) in touch (halfway s l.second l.first) true (neg_of_negated_pos _ _ (halfway_second s l.second l.first) d, up _ _ (halfway_first s l.second l.first) d)

-- the segment from p to p has no point but p
alone : (p z : Point) → OnSegment p p z → SamePoint z p
alone p z o = let h = of_vectors (vec p) (vec z) (on_of_segment p p z o) in record { x = h.0; y = h.1 }
  where
    ring : (l m n px pd zx zd : ℤ) → n *ℤ (zx *ℤ pd) -ℤ n *ℤ (px *ℤ zd) ≡ pd *ℤ (n *ℤ zx -ℤ (l *ℤ px +ℤ m *ℤ px)) +ℤ neg_ℤ px *ℤ (n *ℤ zd -ℤ (l *ℤ pd +ℤ m *ℤ pd))
    ring l m n px pd zx zd = by_ring (l ∷ m ∷ n ∷ px ∷ pd ∷ zx ∷ zd ∷ []) _ _ (search quoting depth 60 fits 200000) (search quoting depth 60 fits 200000) tt

    of_vectors : (p' z' : V) → On p' p' z' → (z'.x *ℤ p'.d ≡ p'.x *ℤ z'.d) × (z'.y *ℤ p'.d ≡ p'.y *ℤ z'.d)
    of_vectors p' z' (l, m, n, h) = (same-of-mul n _ _ h.scale (combine2 p'.d (neg_ℤ p'.x) h.x h.d (ring l m n p'.x p'.d z'.x z'.d)), same-of-mul n _ _ h.scale (combine2 p'.d (neg_ℤ p'.y) h.y h.d (ring l m n p'.y p'.d z'.y z'.d)))

free_misses : (m : Map) (p : Point) → OnNoLine m p → MissesSolid m p p
free_misses m p free i l e solid z o on_line = free i l e (segment_of_on (point_of l.first) (point_of l.second) p (on_same (vec (point_of l.first)) (vec (point_of l.second)) p z (same_point_sym z p (alone p z o)) (on_of_segment (point_of l.first) (point_of l.second) z on_line)))

named_line : (m : Map) (s : Side) (a : ℕ) → Names m s a → (l : MapLine) × (line_at m s.line ≡ Some l)
named_line m s a e = found (line_at m s.line) e
  where
    found : (o : Option MapLine) → option_and_then (λ l. sector_on l s.left) o ≡ Some a → (l : MapLine) × (o ≡ Some l)
    found None e = absurd (none_is_not_some a e)
    found (Some l) e = (l, refl)

named_sees : (m : Map) (a : ℕ) → IsMap m → LinesMeetAtEnds m → (s : Side) → Names m s a → Sees m a a
named_sees m a is_map ends s names =
    let l = named_line m s a names in
    let t = side_touched m s l.0 is_map ends l.1 in
    let free = touching_free m t.0 s t.1 in
    let inside : InSector m t.0 a = record { free = free; side = s; touches = t.1; names = names } in
    record { p = t.0; q = t.0; from = inside; to = inside; clear = free_misses m t.0 free }

pub sees_itself : (m : Map) (a : ℕ) → IsMap m → LinesMeetAtEnds m → (Sees m a a ↔ ((s : Side) × Names m s a))
sees_itself m a is_map ends = ((λ h. sees_names m a a h), (λ n. named_sees m a is_map ends n.0 n.1))

pub sight_joins : (m : Map) (r : Ray) (a b : ℕ) → IsMap m → LinesMeetAtEnds m → IsSightRay m r a b → AreInSight m r.first r.last
sight_joins m r a b is_map ends h = open_joins m r is_map ends (open_of_sight m r a b h)

pub sight_sees : (m : Map) (r : Ray) (a b : ℕ) → IsMap m → LinesMeetAtEnds m → IsSightRay m r a b → Sees m a b
sight_sees m r a b is_map ends h = open_sees m r a b is_map ends (open_of_sight m r a b h) h.from h.to
