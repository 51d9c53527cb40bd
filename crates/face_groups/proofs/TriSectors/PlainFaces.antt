-- The triangles of a plain mesh that have one number in a list, as vectors: where their vertices are, and how their sides meet lines.
use Rattle.std.proofs.Common.{◌≡◌, ℕ, ◌<◌, ℤ, pos, ◌+ℤ◌, ◌*ℤ◌, ◌<ℤ◌, arith, sym, ap, ◌∙◌, subst, ◌⊎◌, inl, inr, List, length, Option, Some, Bool, true, false}
use borrow.Author.Differences.{ints}
use lib.IntN.{zero-*ℤ, *ℤ_comm}
use Rattle.math_base.proofs.Signs.{le_or_lt, mul-pos, pos-of-mul}
use Rattle.sight_names.specs.declared.names.Pt.{Pt}
use Rattle.sight_names.specs.declared.names.Triangle.{Triangle}
use Rattle.sight_names.specs.Point.{Point, point_of, SamePoint}
use Rattle.sight_names.specs.Map.{Map, MapLine, line_at}
use Rattle.sight_names.specs.Points.{Edge, points_of, place, point_number}
use Rattle.sight_names.specs.Sound.{MeetAtEnds}
use Rattle.sight_names.specs.Mesh.{IsPlainMesh}
use Rattle.plane_base.proofs.Vec.{V, Lin, at, IsComb, On, value, det-cycle}
use Rattle.plane_base.proofs.Search.{In}
use Rattle.plane_base.proofs.Walk.{Tri, turned, side, sides}
use Rattle.mesh_base.proofs.SightLaws.Bridge.{vec, turn_at_is, segment_of_on}
use Rattle.mesh_base.proofs.SightLaws.Paths.{OnLineV, side_from, side_to, point_at}
use Rattle.mesh_base.proofs.Face.{Fair, SameSegment, Clean}
use Rattle.mesh_base.proofs.Net.{IsAt}
use Rattle.mesh_base.proofs.GoodMesh.{PointFacts, pv, tri_of, Member, Corner, corner_of, to_is, from_is, place_vec, comb_right, comb_left, turned_in}

turn_of : (t g : Tri) → In g (sides t) → pos 0 <ℤ side t t.c → pos 0 <ℤ side g g.c
turn_of t g i h =
    let c1 = det-cycle t.a t.b t.c in let c2 = det-cycle t.b t.c t.a in
    let P : Tri → Type 0 = λ x. pos 0 <ℤ side x x.c in
    elim i as (λ _. pos 0 <ℤ side g g.c) [
      | inl e ↦ subst P e h
      | inr j ↦ elim j as (λ _. pos 0 <ℤ side g g.c) [
        | inl e ↦ subst P e (omega (arith, ints))
        | inr k ↦ elim k as (λ _. pos 0 <ℤ side g g.c) [ inl e ↦ subst P e (omega (arith, ints)) | inr n ↦ absurd n ]
      ]
    ]

pub plain_turn : (m : Map) (ts : List Triangle) (ls : List (Option ℕ)) → IsPlainMesh m ts → (a : ℕ) (g : Tri) → Member m a ts ls g → pos 0 <ℤ side g g.c
plain_turn m ts ls plain a g x =
    let h = plain.turn x.k x.t x.is in
    let e = turn_at_is (place m x.t.p) (place m x.t.q) (point_of (place m x.t.r)) in
    turn_of (tri_of m x.t) g x.turn (omega (arith, ints))

below : (m : Map) (ts : List Triangle) (ls : List (Option ℕ)) → IsPlainMesh m ts → (a : ℕ) (g : Tri) (x : Member m a ts ls g) → (c : Corner m x.t g) → c.x < length (points_of m)
below m ts ls plain a g x c = c.low (length (points_of m)) (plain.triangles.each x.k x.t x.is)

pub corner_on : (m : Map) (f : PointFacts m) (ts : List Triangle) (ls : List (Option ℕ)) → IsPlainMesh m ts → (a : ℕ) (g : Tri) → Member m a ts ls g
    → (i : ℕ) × (l : MapLine) × (line_at m i ≡ Some l) × ((g.a ≡ vec (point_of l.first)) ⊎ (g.a ≡ vec (point_of l.second)))
corner_on m f ts ls plain a g x =
    let c = corner_of m x.t g x.turn in
    let e = f.is_end c.x (below m ts ls plain a g x c) in
    (e.0, e.1, e.2, elim e.3 as (λ _. (g.a ≡ vec (point_of e.1.first)) ⊎ (g.a ≡ vec (point_of e.1.second))) [ inl h ↦ inl (c.a ∙ place_vec (place m c.x) e.1.first h) | inr h ↦ inr (c.a ∙ place_vec (place m c.x) e.1.second h) ])

pub vertex_on : (m : Map) (f : PointFacts m) (ts : List Triangle) (ls : List (Option ℕ)) → IsPlainMesh m ts → (a : ℕ) (g : Tri) → Member m a ts ls g → (l n : ℤ) (r : V) → IsComb l (pos 0) n g.a g.b r → OnLineV m r
vertex_on m f ts ls plain a g x l n r h =
    let c = corner_on m f ts ls plain a g x in (
      c.0,
      c.1,
      c.2,
      elim c.3 as (λ _. On (vec (point_of c.1.first)) (vec (point_of c.1.second)) r) [
        | inl e ↦ (l, pos 0, n, comb_left l n (vec (point_of c.1.first)) g.b r (vec (point_of c.1.second)) (subst (λ (k : V). IsComb l (pos 0) n k g.b r) e h))
        | inr e ↦ (pos 0, l, n, comb_right l n (vec (point_of c.1.second)) g.b r (vec (point_of c.1.first)) (subst (λ (k : V). IsComb l (pos 0) n k g.b r) e h))
      ],
    )

at_of_same : (p : Pt) (r : Point) → SamePoint r (point_of p) → IsAt (vec (point_of p)) (vec r)
at_of_same p r h = record {
  k = pos r.d;
  n = pos 1;
  up = let z = r.positive in omega (arith, ints);
  comb = record {
    left = omega (arith, ints);
    right = omega (arith, ints);
    scale = omega (arith, ints);
    x = let e = h.x in omega (arith, ints, *ℤ_comm p.x (pos r.d), *ℤ_comm r.x (pos 1), zero-*ℤ p.x);
    y = let e = h.y in omega (arith, ints, *ℤ_comm p.y (pos r.d), *ℤ_comm r.y (pos 1), zero-*ℤ p.y);
    d = omega (arith, ints);
  };
}

-- a vector of a segment that isn't 0 is a point
on_above : (p q : Pt) (w : V) (f : Lin) → pos 0 <ℤ at f w → On (vec (point_of p)) (vec (point_of q)) w → pos 0 <ℤ w.d
on_above p q w f fw (l, m, n, h) =
    let v = value f l m n (vec (point_of p)) (vec (point_of q)) w h in
    let e = h.d in let hl = h.left in let hm = h.right in
    elim (le_or_lt (l +ℤ m) (pos 0)) as (λ _. pos 0 <ℤ w.d) [
      | inl z ↦ absurd (
          let lz : l ≡ pos 0 = omega (arith, ints) in let mz : m ≡ pos 0 = omega (arith, ints) in
          let a : l *ℤ at f (vec (point_of p)) ≡ pos 0 = ap (λ (k : ℤ). k *ℤ at f (vec (point_of p))) lz ∙ zero-*ℤ (at f (vec (point_of p))) in
          let b : m *ℤ at f (vec (point_of q)) ≡ pos 0 = ap (λ (k : ℤ). k *ℤ at f (vec (point_of q))) mz ∙ zero-*ℤ (at f (vec (point_of q))) in
          omega (arith, ints, mul-pos n (at f w) h.scale fw))
      | inr s ↦ pos-of-mul n w.d h.scale (omega (arith, ints))
    ]

fair_of : (p q s t : Pt) → MeetAtEnds p q s t → (w : V) (f : Lin) → pos 0 <ℤ at f w → On (vec (point_of p)) (vec (point_of q)) w → On (vec (point_of s)) (vec (point_of t)) w
    → (IsAt (vec (point_of p)) w ⊎ IsAt (vec (point_of q)) w) × (IsAt (vec (point_of s)) w ⊎ IsAt (vec (point_of t)) w)
fair_of p q s t h w f fw o1 o2 =
    let x = point_at w (on_above p q w f fw o1) in
    let o3 : On (vec (point_of p)) (vec (point_of q)) (vec x.0) = subst (λ (k : V). On (vec (point_of p)) (vec (point_of q)) k) (sym x.1) o1 in
    let o4 : On (vec (point_of s)) (vec (point_of t)) (vec x.0) = subst (λ (k : V). On (vec (point_of s)) (vec (point_of t)) k) (sym x.1) o2 in
    let e = h.ends x.0 (segment_of_on (point_of p) (point_of q) x.0 o3, segment_of_on (point_of s) (point_of t) x.0 o4) in
    let P : V → Type 0 = λ k. (IsAt (vec (point_of p)) k ⊎ IsAt (vec (point_of q)) k) × (IsAt (vec (point_of s)) k ⊎ IsAt (vec (point_of t)) k) in
    subst P x.1 (
      elim e.0 as (λ _. IsAt (vec (point_of p)) (vec x.0) ⊎ IsAt (vec (point_of q)) (vec x.0)) [ inl a ↦ inl (at_of_same p x.0 a) | inr a ↦ inr (at_of_same q x.0 a) ],
      elim e.1 as (λ _. IsAt (vec (point_of s)) (vec x.0) ⊎ IsAt (vec (point_of t)) (vec x.0)) [ inl a ↦ inl (at_of_same s x.0 a) | inr a ↦ inr (at_of_same t x.0 a) ],
    )

side_same : (l : MapLine) (left : Bool) (a b : V) → a ≡ side_from l left → b ≡ side_to l left → SameSegment a b (vec (point_of l.first)) (vec (point_of l.second))
side_same l true a b e f = inl (e, f)
side_same l false a b e f = inr (e, f)

fair_side : (m : Map) (f : PointFacts m) (ts : List Triangle) (ls : List (Option ℕ)) → IsPlainMesh m ts → (a : ℕ) (g : Tri) → Member m a ts ls g → (i : ℕ) (l : MapLine) → line_at m i ≡ Some l
    → Fair g.a g.b (vec (point_of l.first)) (vec (point_of l.second))
fair_side m f ts ls plain a g x i l is =
    let c = corner_of m x.t g x.turn in
    let e : Edge = record { from = c.x; to = c.y } in
    let F = vec (point_of l.first) in let S = vec (point_of l.second) in
    elim (plain.fair x.k i x.t e l x.is c.edge is) as (λ _. Fair g.a g.b F S) [
      | inl h ↦ inr (λ w k kw o1 o2.
          let r = fair_of (place m c.x) (place m c.y) l.first l.second h w k kw (subst (λ (v : V). On v (pv m c.y) w) c.a (subst (λ (v : V). On g.a v w) c.b o1)) o2 in
          (elim r.0 as (λ _. IsAt g.a w ⊎ IsAt g.b w) [ inl t ↦ inl (subst (λ (v : V). IsAt v w) (sym c.a) t) | inr t ↦ inr (subst (λ (v : V). IsAt v w) (sym c.b) t) ], r.1))
      | inr d ↦ inl (side_same l d.0 g.a g.b (c.a ∙ ap (λ (k : Edge). pv m k.from) d.1 ∙ from_is m f i l d.0 is) (c.b ∙ ap (λ (k : Edge). pv m k.to) d.1 ∙ to_is m f i l d.0 is))
    ]

-- a map point isn't strictly inside
not_inside : (m : Map) (ts : List Triangle) (ls : List (Option ℕ)) → IsPlainMesh m ts → (a : ℕ) (g : Tri) → Member m a ts ls g → (k : ℕ) → k < length (points_of m) → (u : V) → pv m k ≡ u
    → pos 0 <ℤ side g u → pos 0 <ℤ side (turned g) u → pos 0 <ℤ side (turned (turned g)) u → ⊥
not_inside m ts ls plain a g x k hk u e h1 h2 h3 =
    let t = x.t in
    let pq = turn_at_is (place m t.p) (place m t.q) (point_of (place m k)) in
    let qr = turn_at_is (place m t.q) (place m t.r) (point_of (place m k)) in
    let rp = turn_at_is (place m t.r) (place m t.p) (point_of (place m k)) in
    let out : pos 0 <ℤ side (tri_of m t) (pv m k) → pos 0 <ℤ side (turned (tri_of m t)) (pv m k) → pos 0 <ℤ side (turned (turned (tri_of m t))) (pv m k) → ⊥ = λ a1 a2 a3.
    plain.empty x.k t x.is k hk (record { pq = omega (arith, ints); qr = omega (arith, ints); rp = omega (arith, ints) }) in
    let Q : Tri → Type 0 = λ y. pos 0 <ℤ side y (pv m k) → pos 0 <ℤ side (turned y) (pv m k) → pos 0 <ℤ side (turned (turned y)) (pv m k) → ⊥ in
    let all : Q g = elim x.turn as (λ _. Q g) [
      | inl e1 ↦ subst Q e1 out
      | inr j ↦ elim j as (λ _. Q g) [
        | inl e1 ↦ subst Q e1 (λ a1 a2 a3. out a3 a1 a2)
        | inr n ↦ elim n as (λ _. Q g) [ inl e1 ↦ subst Q e1 (λ a1 a2 a3. out a2 a3 a1) | inr z ↦ absurd z ]
      ]
    ] in
    subst (λ (v : V). pos 0 <ℤ side g v → pos 0 <ℤ side (turned g) v → pos 0 <ℤ side (turned (turned g)) v → ⊥) e all h1 h2 h3

pub member_turned : (m : Map) (a : ℕ) (ts : List Triangle) (ls : List (Option ℕ)) (g : Tri) → Member m a ts ls g → Member m a ts ls (turned g)
member_turned m a ts ls g x = record { k = x.k; t = x.t; is = x.is; label = x.label; turn = turned_in (tri_of m x.t) g x.turn }

pub clean_of : (m : Map) (f : PointFacts m) (ts : List Triangle) (ls : List (Option ℕ)) → IsPlainMesh m ts → (a : ℕ) (g : Tri) → Member m a ts ls g → (i : ℕ) (l : MapLine) → line_at m i ≡ Some l
    → Clean g (vec (point_of l.first)) (vec (point_of l.second))
clean_of m f ts ls plain a g x i l is =
    let x1 = member_turned m a ts ls g x in let x2 = member_turned m a ts ls (turned g) x1 in
    let p = f.first i l is in let q = f.second i l is in let ap0 = f.apart i l is in
    record {
      turn = plain_turn m ts ls plain a g x;
      ab = fair_side m f ts ls plain a g x i l is;
      bc = fair_side m f ts ls plain a (turned g) x1 i l is;
      ca = fair_side m f ts ls plain a (turned (turned g)) x2 i l is;
      first = not_inside m ts ls plain a g x (point_number m l.first) p.1 (vec (point_of l.first)) (place_vec _ _ p.0);
      second = not_inside m ts ls plain a g x (point_number m l.second) q.1 (vec (point_of l.second)) (place_vec _ _ q.0);
      uv = ap0.0;
      vu = ap0.1;
    }
