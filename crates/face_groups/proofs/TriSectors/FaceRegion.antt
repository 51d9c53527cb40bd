-- The triangles of one face as a region: a path leaves it at a gap alone.
use Rattle.std.proofs.Common.{◌≡◌, ℕ, ◌<◌, pos, ◌≤ℤ◌, ◌<ℤ◌, arith, refl, sym, ap, ◌∙◌, subst, ◌⊎◌, inl, inr, List, length, map, slice_get, Option, Some, option_map, option_and_then, Bool, true, false}
use borrow.Author.Differences.{ints}
use Rattle.std.proofs.lemmas.Option.{slice_get_within, slice_get-get_or, slice_get-map, same_Some}
use Rattle.math_base.proofs.Signs.{mul-pos}
use Rattle.sight_names.specs.declared.names.Side.{Side}
use Rattle.sight_names.specs.declared.names.Triangle.{Triangle}
use Rattle.sight_names.specs.Point.{Point, point_of}
use Rattle.sight_names.specs.Map.{Map, MapLine, line_at}
use Rattle.sight_names.specs.Path.{Touches}
use Rattle.sight_names.specs.Points.{Edge, reverse_of, points_of, place, point_number}
use Rattle.sight_names.specs.Sound.{IsOutside}
use Rattle.sight_names.specs.Mesh.{HasEdge, label_of, side_edge, triangle_at, IsPlainMesh}
use Rattle.plane_base.proofs.Vec.{V, Lin, at, det, On, bary}
use Rattle.plane_base.proofs.Search.{In}
use Rattle.plane_base.proofs.Walk.{Tri, turned, side, sides, Region}
use Rattle.mesh_base.proofs.SightLaws.Bridge.{vec, value_at_is}
use Rattle.mesh_base.proofs.SightLaws.Paths.{OnLineV, Holds, side_from, side_to, is_side, inside_of, touch_walk, to_foot}
use Rattle.mesh_base.proofs.Face.{SameSegment, is_ab, is_bc, is_ca, line_is_edge}
use Rattle.mesh_base.proofs.GoodMesh.{PointFacts, pv, tri_of, class, in_class, Member, corner_of, turned_to_edge, found_at, same_or_not, pt_of_vec, in_all, side_on, to_is, from_is}
use Rattle.mesh_shape.proofs.RuleLemmas.{some_first}
use Rattle.face_groups.specs.declared.tri_sectors.faces.Walls.{Walls}
use Rattle.face_groups.specs.TriSectors.Classes.{class_of}
use Rattle.face_groups.specs.TriSectors.Faces.{AreWalls, HasGap, AreFaces}
use Rattle.face_groups.proofs.TriSectors.GoodLabels.{step_or_gap}
use Rattle.face_groups.proofs.TriSectors.PlainFaces.{plain_turn, vertex_on, corner_on, member_turned, clean_of}
use Rattle.math_base.proofs.MoreSigns.{mul-nonpos}
use Rattle.mesh_base.proofs.FaceClass.{directed}

-- the faces as a list of labels
abbrev pub numbers : List ℕ → List (Option ℕ)
numbers fs = map (λ f. Some f) fs

pub number_there : (fs : List ℕ) (k f : ℕ) → k < length fs → class_of fs k ≡ f → label_of (numbers fs) k ≡ Some f
number_there fs k f lt e = ap (option_and_then (λ x. x)) (slice_get-map (λ f. Some f) fs k ∙ ap (option_map (λ f. Some f)) (slice_get-get_or fs k 0 lt)) ∙ ap (λ (x : ℕ). Some x) e

pub there_number : (fs : List ℕ) (k f : ℕ) → k < length fs → label_of (numbers fs) k ≡ Some f → class_of fs k ≡ f
there_number fs k f lt h = same_Some (class_of fs k) f (sym (number_there fs k (class_of fs k) lt refl) ∙ h)

-- what is known of the faces of a plain mesh
pub record Ground (m : Map) (ts : List Triangle) (ws : List Walls) (fs : List ℕ) : Type 0 where
  pub facts : PointFacts m
  pub plain : IsPlainMesh m ts
  pub walls : AreWalls m ts ws
  pub faces : AreFaces ts ws fs

-- the triangles of face f, each in its three turned forms
abbrev pub face_list : Map → List Triangle → List ℕ → ℕ → List Tri
face_list m ts fs f = class m f ts (numbers fs) (length ts)

abbrev pub OnFace : Map → List Triangle → List ℕ → ℕ → Tri → Type 0
OnFace m ts fs f g = Member m f ts (numbers fs) g

-- a triangle of face f has a gap
pub record GapOn (ts : List Triangle) (ws : List Walls) (fs : List ℕ) (f : ℕ) : Type 0 where
  pub k : ℕ
  pub within : k < length ts
  pub face : class_of fs k ≡ f
  pub gap : HasGap ts ws k

pub on_face : (m : Map) (ts : List Triangle) (ws : List Walls) (fs : List ℕ) → Ground m ts ws fs → (f k : ℕ) (t : Triangle) (g : Tri) → slice_get ts k ≡ Some t → class_of fs k ≡ f → In g (sides (tri_of m t)) → OnFace m ts fs f g
on_face m ts ws fs d f k t g at face turn = record { k = k; t = t; is = at; label = number_there fs k f (let lt = slice_get_within ts k t at in let e = d.faces.one_each in omega (arith, lt, e)) face; turn = turn }

pub face_of_member : (m : Map) (ts : List Triangle) (ws : List Walls) (fs : List ℕ) → Ground m ts ws fs → (f : ℕ) (g : Tri) (x : OnFace m ts fs f g) → class_of fs x.k ≡ f
face_of_member m ts ws fs d f g x = there_number fs x.k f (let lt = slice_get_within ts x.k x.t x.is in let e = d.faces.one_each in omega (arith, lt, e)) x.label

-- ---- the region

step_on : (m : Map) (ts : List Triangle) (ws : List Walls) (fs : List ℕ) → Ground m ts ws fs → (f : ℕ) (g : Tri) → OnFace m ts fs f g
    → ((r : V) → On g.a g.b r → OnLineV m r) ⊎ (((w : V) × OnFace m ts fs f (record { a = g.b; b = g.a; c = w })) ⊎ GapOn ts ws fs f)
step_on m ts ws fs d f g x =
    let c = corner_of m x.t g x.turn in
    let e : Edge = record { from = c.x; to = c.y } in
    let face = face_of_member m ts ws fs d f g x in
    elim (d.facts.dec_line e) as (λ _. ((r : V) → On g.a g.b r → OnLineV m r) ⊎ (((w : V) × OnFace m ts fs f (record { a = g.b; b = g.a; c = w })) ⊎ GapOn ts ws fs f)) [
      | inl h ↦ inl (λ r o.
          let i = h.0 in let l = h.1 in let left = h.2 in let is = h.3 in
          let ga : g.a ≡ side_from l left = c.a ∙ ap (λ (k : Edge). pv m k.from) h.4 ∙ from_is m d.facts i l left is in
          let gb : g.b ≡ side_to l left = c.b ∙ ap (λ (k : Edge). pv m k.to) h.4 ∙ to_is m d.facts i l left is in
          (i, l, is, side_on l left r (subst (λ (k : V). On k (side_to l left) r) ga (subst (λ (k : V). On g.a k r) gb o))))
      | inr n ↦ elim (step_or_gap m ts ws x.k x.t e d.walls x.is c.edge n) as (λ _. ((r : V) → On g.a g.b r → OnLineV m r) ⊎ (((w : V) × OnFace m ts fs f (record { a = g.b; b = g.a; c = w })) ⊎ GapOn ts ws fs f)) [
        | inr gap ↦ inr (inr (record { k = x.k; within = slice_get_within ts x.k x.t x.is; face = face; gap = gap }))
        | inl (j, behind, link) ↦
            let u = found_at ts (reverse_of e) j behind in
            let w = turned_to_edge m u.0 c.y c.x u.2 in
            inr (inl (
              w.0,
              on_face m ts ws fs d f j u.0 _ u.1 (sym (d.faces.linked x.k j link) ∙ face)
                  (subst (λ (k : V). In (record { a = k; b = g.a; c = w.0 }) (sides (tri_of m u.0))) (sym c.b) (subst (λ (k : V). In (record { a = pv m c.y; b = k; c = w.0 }) (sides (tri_of m u.0))) (sym c.a) w.1)),
            ))
      ]
    ]

pub region_of : (m : Map) (ts : List Triangle) (ws : List Walls) (fs : List ℕ) → Ground m ts ws fs → (f : ℕ) → Region (face_list m ts fs f) (OnLineV m) (GapOn ts ws fs f)
region_of m ts ws fs d f = record {
  turn = λ t i. plain_turn m ts (numbers fs) d.plain f t (in_class m f ts (numbers fs) (length ts) t i);
  turns = λ t i. let x = in_class m f ts (numbers fs) (length ts) t i in in_all m f ts (numbers fs) (turned t) (member_turned m f ts (numbers fs) t x);
  vertex = λ t i. vertex_on m d.facts ts (numbers fs) d.plain f t (in_class m f ts (numbers fs) (length ts) t i);
  step = λ t i. elim (step_on m ts ws fs d f t (in_class m f ts (numbers fs) (length ts) t i)) as (λ _. ((r : V) → On t.a t.b r → OnLineV m r) ⊎ (((w : V) × In (record { a = t.b; b = t.a; c = w }) (face_list m ts fs f)) ⊎ GapOn ts ws fs f)) [
    | inl h ↦ inl h
    | inr (inl w) ↦ inr (inl (w.0, in_all m f ts (numbers fs) _ w.1))
    | inr (inr n) ↦ inr (inr n)
  ];
}

-- ---- a point of a closed triangle isn't outside

low_at : (m : Map) (q : Point) (o : IsOutside m q) (g : Tri) → ((i : ℕ) × (l : MapLine) × (line_at m i ≡ Some l) × ((g.a ≡ vec (point_of l.first)) ⊎ (g.a ≡ vec (point_of l.second)))) → at (record { a = o.a; b = o.b; c = o.c }) g.a ≤ℤ pos 0
low_at m q o g (i, l, is, w) = elim w as (λ _. at (record { a = o.a; b = o.b; c = o.c }) g.a ≤ℤ pos 0) [
  | inl e ↦ subst (λ (x : V). at (record { a = o.a; b = o.b; c = o.c }) x ≤ℤ pos 0) (sym e) (let h = o.first i l is in let v = value_at_is o.a o.b o.c (point_of l.first) in omega (arith, ints))
  | inr e ↦ subst (λ (x : V). at (record { a = o.a; b = o.b; c = o.c }) x ≤ℤ pos 0) (sym e) (let h = o.second i l is in let v = value_at_is o.a o.b o.c (point_of l.second) in omega (arith, ints))
]

pub not_above : (m : Map) (ts : List Triangle) (ws : List Walls) (fs : List ℕ) → Ground m ts ws fs → (f : ℕ) (q : Point) → Holds (face_list m ts fs f) q → ¬ IsOutside m q
not_above m ts ws fs d f q (t, i, c) o =
    let n : Lin = record { a = o.a; b = o.b; c = o.c } in
    let region = region_of m ts ws fs d f in
    let low : (g : Tri) → In g (face_list m ts fs f) → at n g.a ≤ℤ pos 0 = λ g j. low_at m q o g (corner_on m d.facts ts (numbers fs) d.plain f g (in_class m f ts (numbers fs) (length ts) g j)) in
    let b = bary n t.a t.b t.c (vec q) in
    let turn = region.turn t i in
    let cab = c.ab in let cbc = c.bc in let cca = c.ca in
    let e = value_at_is o.a o.b o.c q in
    let beyond = o.beyond in
    omega (
      arith,
      ints,
      mul-nonpos (det t.b t.c (vec q)) (at n t.a) cbc (low t i),
      mul-nonpos (det t.c t.a (vec q)) (at n t.b) cca (low (turned t) (region.turns t i)),
      mul-nonpos (det t.a t.b (vec q)) (at n t.c) cab (low (turned (turned t)) (region.turns (turned t) (region.turns t i))),
      mul-pos (side t t.c) (at n (vec q)) turn (omega (arith, ints)),
    )

-- ---- points that touch a side

-- the triangle at a side, turned to the side's edge
pub side_triangle : (m : Map) (ts : List Triangle) (ws : List Walls) (fs : List ℕ) → Ground m ts ws fs → (s : Side) (l : MapLine) (k : ℕ) → line_at m s.line ≡ Some l → triangle_at ts (side_edge m l s.left) ≡ Some k
    → (w : V) × OnFace m ts fs (class_of fs k) (record { a = side_from l s.left; b = side_to l s.left; c = w })
side_triangle m ts ws fs d s l k is there =
    let u = found_at ts (side_edge m l s.left) k there in
    let e = side_edge m l s.left in
    let w = turned_to_edge m u.0 e.from e.to u.2 in (
      w.0,
      on_face m ts ws fs d (class_of fs k) k u.0 _ u.1 refl
          (subst (λ (v : V). In (record { a = v; b = side_to l s.left; c = w.0 }) (sides (tri_of m u.0))) (from_is m d.facts s.line l s.left is) (subst (λ (v : V). In (record { a = pv m e.from; b = v; c = w.0 }) (sides (tri_of m u.0))) (to_is m d.facts s.line l s.left is) w.1)),
    )

-- a point that touches it is in the face, or the face has a gap
pub touched : (m : Map) (ts : List Triangle) (ws : List Walls) (fs : List ℕ) → Ground m ts ws fs → (s : Side) (k : ℕ) (p : Point) (t : Touches m p s) → triangle_at ts (side_edge m t.line s.left) ≡ Some k → Holds (face_list m ts fs (class_of fs k)) p ⊎ GapOn ts ws fs (class_of fs k)
touched m ts ws fs d s k p t there =
    let w = side_triangle m ts ws fs d s t.line k t.is there in
    touch_walk m (face_list m ts fs (class_of fs k)) (GapOn ts ws fs (class_of fs k)) (region_of m ts ws fs d (class_of fs k)) p s t (side_from t.line s.left) (side_to t.line s.left) w.0 (is_side t.line s.left) (in_all m (class_of fs k) ts (numbers fs) _ w.1)

number_from : (m : Map) (f : PointFacts m) (i : ℕ) (l : MapLine) (left : Bool) → line_at m i ≡ Some l → (k : ℕ) → k < length (points_of m) → side_from l left ≡ pv m k → k ≡ (side_edge m l left).from
number_from m f i l true is k h e = sym (f.number k h) ∙ ap (point_number m) (sym (pt_of_vec l.first (place m k) e))
number_from m f i l false is k h e = sym (f.number k h) ∙ ap (point_number m) (sym (pt_of_vec l.second (place m k) e))

number_to : (m : Map) (f : PointFacts m) (i : ℕ) (l : MapLine) (left : Bool) → line_at m i ≡ Some l → (k : ℕ) → k < length (points_of m) → side_to l left ≡ pv m k → k ≡ (side_edge m l left).to
number_to m f i l true is k h e = sym (f.number k h) ∙ ap (point_number m) (sym (pt_of_vec l.second (place m k) e))
number_to m f i l false is k h e = sym (f.number k h) ∙ ap (point_number m) (sym (pt_of_vec l.first (place m k) e))

-- the first triangle with an edge is the only one
pub only_one : (m : Map) (ts : List Triangle) → IsPlainMesh m ts → (e : Edge) (k : ℕ) (t : Triangle) → slice_get ts k ≡ Some t → HasEdge t e → triangle_at ts e ≡ Some k
only_one m ts plain e k t is has =
    let j = some_first ts e k t is has in
    let u = found_at ts e j.0 j.1 in
    elim (same_or_not j.0 k) as (λ _. triangle_at ts e ≡ Some k) [ inl q ↦ j.1 ∙ ap (λ (x : ℕ). Some x) q | inr n ↦ absurd (plain.once j.0 k u.0 t e n u.1 is u.2 has) ]

-- the side has its triangle on face f
abbrev pub HasSideOn : Map → List Triangle → List ℕ → ℕ → MapLine → Bool → Type 0
HasSideOn m ts fs f l left = (k : ℕ) × (triangle_at ts (side_edge m l left) ≡ Some k) × (class_of fs k ≡ f)

at_edge : (m : Map) (ts : List Triangle) (ws : List Walls) (fs : List ℕ) → Ground m ts ws fs → (f : ℕ) (s : Side) (l : MapLine) (z : V) → line_at m s.line ≡ Some l → (g : Tri) → OnFace m ts fs f g
    → pos 0 <ℤ det (side_from l s.left) (side_to l s.left) z → pos 0 ≤ℤ side g z → SameSegment g.a g.b (vec (point_of l.first)) (vec (point_of l.second)) → HasSideOn m ts fs f l s.left
at_edge m ts ws fs d f s l z is g x hz gz same =
    let u = side_from l s.left in let v = side_to l s.left in
    let e = directed u v z l s.left g (is_side l s.left) hz gz same in
    let c = corner_of m x.t g x.turn in
    let n = length (points_of m) in
    let tri = d.plain.triangles.each x.k x.t x.is in
    let hx : c.x ≡ (side_edge m l s.left).from = number_from m d.facts s.line l s.left is c.x (c.low n tri) (sym e.0 ∙ c.a) in
    let hy : c.y ≡ (side_edge m l s.left).to = number_to m d.facts s.line l s.left is c.y (c.low_y n tri) (sym e.1 ∙ c.b) in
    let has : HasEdge x.t (side_edge m l s.left) = subst (λ (k : ℕ). HasEdge x.t (record { from = k; to = (side_edge m l s.left).to })) hx (subst (λ (k : ℕ). HasEdge x.t (record { from = c.x; to = k })) hy c.edge) in
    (x.k, only_one m ts d.plain (side_edge m l s.left) x.k x.t x.is has, face_of_member m ts ws fs d f g x)

-- a point of the face that touches a side: the side's triangle is on the face, or the face has a gap
pub reaches : (m : Map) (ts : List Triangle) (ws : List Walls) (fs : List ℕ) → Ground m ts ws fs → (f : ℕ) (s : Side) (p : Point) (t : Touches m p s) → Holds (face_list m ts fs f) p → HasSideOn m ts fs f t.line s.left ⊎ GapOn ts ws fs f
reaches m ts ws fs d f s p t holds =
    let region = region_of m ts ws fs d f in
    let member : (g : Tri) → In g (face_list m ts fs f) → OnFace m ts fs f g = λ g i. in_class m f ts (numbers fs) (length ts) g i in
    elim (to_foot m (face_list m ts fs f) (GapOn ts ws fs f) region p s t (side_from t.line s.left) (side_to t.line s.left) (is_side t.line s.left) holds) as (λ _. HasSideOn m ts fs f t.line s.left ⊎ GapOn ts ws fs f) [
      | inr e ↦ inr e
      | inl r ↦
          let F = vec (point_of t.line.first) in let S = vec (point_of t.line.second) in
          let i1 = r.member in let i2 = region.turns r.t i1 in let i3 = region.turns (turned r.t) i2 in
          inl (elim (line_is_edge r.t F S (vec t.foot) (clean_of m d.facts ts (numbers fs) d.plain f r.t (member r.t i1) s.line t.line t.is) r.to (inside_of (point_of t.line.first) (point_of t.line.second) t.foot t.inside)) as (λ _. HasSideOn m ts fs f t.line s.left) [
            | is_ab same zero ↦ at_edge m ts ws fs d f s t.line r.z t.is r.t (member r.t i1) r.left r.from.ab same
            | is_bc same zero ↦ at_edge m ts ws fs d f s t.line r.z t.is (turned r.t) (member (turned r.t) i2) r.left r.from.bc same
            | is_ca same zero ↦ at_edge m ts ws fs d f s t.line r.z t.is (turned (turned r.t)) (member (turned (turned r.t)) i3) r.left r.from.ca same
          ])
    ]
