-- Where no side is open and the sides of each face name the same, the labels make the mesh good.
use Rattle.std.proofs.Common.{◌≡◌, ℕ, ◌<◌, ◌⊎◌, inl, inr, List, length, slice_get, slice_index_or, Bool, true, false, IsTrue, Option, Some, None, IfSome, Result, Ok, Err, IfOk, option_and_then, refl, sym, ap, ◌∙◌, subst, arith}
use Rattle.std.proofs.lemmas.Bool.{false≢true}
use Rattle.std.proofs.lemmas.Option.{slice_get_within, slice_get-get_or, get_or_from_slice_get, slice_get_past, same_Some, none-some}
use Rattle.sight_names.specs.declared.names.Side.{Side}
use Rattle.sight_names.specs.declared.names.Triangle.{Triangle}
use Rattle.sight_names.specs.declared.faults.LabelFault.{LabelFault}
use Rattle.sight_names.specs.declared.faults.LabelFault.TheVariants.{Open, Mixed, Memory}
use Rattle.sight_names.specs.Plan.{PlanParts, IsPlan}
use Rattle.sight_names.specs.Map.{Map, MapLine, IsMap, line_at, map_of, named, Names, sector_on}
use Rattle.sight_names.proofs.PlanMap.{plan_is_map}
use Rattle.sight_names.specs.Points.{Edge, reverse_of}
use Rattle.sight_names.specs.Mesh.{HasEdge, IsLineEdge, IsPlainMesh, IsGoodMesh, label_of, side_edge, triangle_at}
use Rattle.mesh_shape.proofs.RuleLemmas.{edge_cases}
use Rattle.face_groups.specs.declared.tri_sectors.faces.Walls.{Walls}
use Rattle.face_groups.specs.declared.tri_sectors.sides.FacedSide.{FacedSide}
use Rattle.face_groups.specs.TriSectors.Classes.{class_of}
use Rattle.face_groups.specs.TriSectors.Faces.{IsWallAt, AreWalls, IsFreeEdge, IsLink, HasGap, AreFaces, AreOpen, AreMarkedFaces}
use Rattle.face_groups.specs.TriSectors.Sides.{IsSealedAt, IsFaced, AreFaced, AreAlike, AreLabelled, IsFirstMixed, IsMixedSearch}
use Rattle.face_groups.specs.TriSectors.Labels.{AreFaceLabels, AreSealed, IsMixedPair, IsSidesVerdict, IsLabelsVerdict}
use Rattle.face_groups.proofs.TriSectors.FaceLemmas.{any_walls}
use Rattle.math_base.proofs.Numbers.{below_or_not, below_above_or_same}
use Rattle.sight_names.proofs.Portals.{triangle_within}

-- ---- an edge that is no line isn't marked

abbrev pub walls_at : List Walls → ℕ → Walls
walls_at ws k = slice_index_or ws k any_walls

not_marked : (m : Map) (ts : List Triangle) (k : ℕ) (e : Edge) (b : Bool) → (IsTrue b → IsWallAt m ts k e) → ¬ IsLineEdge m e → b ≡ false
not_marked m ts k e true f n = absurd (n (f refl).0)
not_marked m ts k e false f n = refl

pub free_edge : (m : Map) (ts : List Triangle) (ws : List Walls) (k : ℕ) (t : Triangle) (e : Edge) → AreWalls m ts ws → slice_get ts k ≡ Some t → HasEdge t e → ¬ IsLineEdge m e → IsFreeEdge t (walls_at ws k) e
free_edge m ts ws k t e are at has n = let marks = are.each k t any_walls at in
    edge_cases t e (λ (f : Edge). ¬ IsLineEdge m f → IsFreeEdge t (walls_at ws k) f)
    (λ x. inl (refl, not_marked m ts k _ _ marks.pq.0 x)) (λ x. inr (inl (refl, not_marked m ts k _ _ marks.qr.0 x))) (λ x. inr (inr (refl, not_marked m ts k _ _ marks.rp.0 x))) has n

walls_there : (m : Map) (ts : List Triangle) (ws : List Walls) (k : ℕ) (t : Triangle) → AreWalls m ts ws → slice_get ts k ≡ Some t → slice_get ws k ≡ Some (walls_at ws k)
walls_there m ts ws k t are at = slice_get-get_or ws k any_walls (let lt = slice_get_within ts k t at in let e = are.one_each in omega (arith, lt, e))

-- the triangle behind it is linked, or there is a gap
pub step_or_gap : (m : Map) (ts : List Triangle) (ws : List Walls) (k : ℕ) (t : Triangle) (e : Edge) → AreWalls m ts ws → slice_get ts k ≡ Some t → HasEdge t e → ¬ IsLineEdge m e
    → ((j : ℕ) × (triangle_at ts (reverse_of e) ≡ Some j) × IsLink ts ws k j) ⊎ HasGap ts ws k
step_or_gap m ts ws k t e are at has n = go (triangle_at ts (reverse_of e)) refl
  where
    go : (o : Option ℕ) → triangle_at ts (reverse_of e) ≡ o → ((j : ℕ) × (triangle_at ts (reverse_of e) ≡ Some j) × IsLink ts ws k j) ⊎ HasGap ts ws k
    go (Some j) h = inl (j, h, record { t = t; w = walls_at ws k; e = e; at = at; marks = walls_there m ts ws k t are at; free = free_edge m ts ws k t e are at has n; behind = h })
    go None h = inr (record { t = t; w = walls_at ws k; e = e; at = at; marks = walls_there m ts ws k t are at; free = free_edge m ts ws k t e are at has n; behind = h })

-- ---- names of faces

one_name : (ss : List FacedSide) → ((i j : ℕ) → i < j → AreAlike ss i j) → (i j : ℕ) (s t : FacedSide) → slice_get ss i ≡ Some s → slice_get ss j ≡ Some t → t.face ≡ s.face → t.sector ≡ s.sector
one_name ss alike i j s t es et f = elim (below_above_or_same i j) as (λ _. t.sector ≡ s.sector) [
  | inl lt ↦ alike i j lt s t es et f
  | inr (inl lt) ↦ sym (alike j i lt t s et es (sym f))
  | inr (inr same) ↦ ap (λ (x : FacedSide). x.sector) (same_Some t s (sym et ∙ ap (slice_get ss) (sym same) ∙ es))
]

pub label_name : (fs : List ℕ) (ns ls : List (Option ℕ)) (k : ℕ) → AreLabelled fs ns ls → k < length fs → label_of ls k ≡ slice_index_or ns (class_of fs k) None
label_name fs ns ls k l lt = ap (option_and_then (λ x. x)) (l.each k lt)

pub label_within : (ls : List (Option ℕ)) (k a : ℕ) → label_of ls k ≡ Some a → k < length ls
label_within ls k a h = elim (below_or_not k (length ls)) as (λ _. k < length ls) [ inl lt ↦ lt | inr le ↦ absurd (none-some a (sym (ap (option_and_then (λ x. x)) (slice_get_past ls k le)) ∙ h)) ]

-- a side that names the label, on the triangle's face
pub record HasNamedSide (m : Map) (ts : List Triangle) (fs : List ℕ) (k a : ℕ) : Type 0 where
  pub side : Side
  pub line : MapLine
  pub is : line_at m side.line ≡ Some line
  pub names : Names m side a
  pub j : ℕ
  pub at : triangle_at ts (side_edge m line side.left) ≡ Some j
  pub face : class_of fs k ≡ class_of fs j

pub named_side : (m : Map) (ts : List Triangle) (fs : List ℕ) (ss : List FacedSide) (ls : List (Option ℕ)) → AreFaced m ts fs ss → AreFaceLabels fs ss ls → (k a : ℕ) → label_of ls k ≡ Some a → HasNamedSide m ts fs k a
named_side m ts fs ss ls faced l k a label =
    let lt : k < length fs = let w = label_within ls k a label in let e = l.labelled.one_each in omega (arith, w, e) in
    let g = l.are_names.given (class_of fs k) a (sym (label_name fs l.names ls k l.labelled lt) ∙ label) in
    let w = (faced.each g.0 g.1 g.2).0 in record {
      side = g.1.side;
      line = w.line;
      is = w.is;
      names = sym w.sector ∙ g.4;
      j = w.k;
      at = w.at;
      face = sym g.3 ∙ w.face;
    }

pub label_below : (m : Map) → IsMap m → (s : Side) (l : MapLine) (a : ℕ) → line_at m s.line ≡ Some l → Names m s a → a < m.sectors
label_below m is s l a at names = go s.left (sym (ap (option_and_then (λ (k : MapLine). sector_on k s.left)) at) ∙ names)
  where
    some_below : (o : Option ℕ) → IfSome o (λ x. x < m.sectors) → o ≡ Some a → a < m.sectors
    some_below o h e = subst (λ (x : Option ℕ). IfSome x (λ y. y < m.sectors)) e h

    go : (left : Bool) → sector_on l left ≡ Some a → a < m.sectors
    go true e = some_below l.left (is s.line l at).left e
    go false e = some_below l.right (is s.line l at).right e

-- a side's triangle has its name as its label
pub side_label : (m : Map) (ts : List Triangle) (fs : List ℕ) (ss : List FacedSide) (ls : List (Option ℕ)) → length fs ≡ length ts → AreFaced m ts fs ss → AreFaceLabels fs ss ls
    → (s : Side) (l : MapLine) (k : ℕ) → line_at m s.line ≡ Some l → triangle_at ts (side_edge m l s.left) ≡ Some k → label_of ls k ≡ named m s
side_label m ts fs ss ls len faced fl s l k at there =
    let lt : k < length fs = let w = triangle_within ts (side_edge m l s.left) k there in omega (arith, w, len) in
    let f = faced.all s l k tt at there in
    let w = (faced.each f.0 f.1 f.2).0 in
    let name : f.1.sector ≡ named m s = w.sector ∙ ap (named m) f.3 in
    let face : f.1.face ≡ class_of fs k = w.face ∙ ap (class_of fs) (same_place w) in
    label_name fs fl.names ls k fl.labelled lt ∙ go f.0 f.1 f.2 (slice_index_or fl.names (class_of fs k) None) refl face ∙ name
  where
    same_place : (w : IsFaced m ts fs (faced.all s l k tt at there).1) → w.k ≡ k
    same_place w = let f = faced.all s l k tt at there in
        same_Some w.k k (sym w.at ∙ ap (λ (x : MapLine). triangle_at ts (side_edge m x f.1.side.left)) (same_Some w.line l (sym w.is ∙ ap (λ (x : Side). line_at m x.line) f.3 ∙ at)) ∙ ap (λ (x : Side). triangle_at ts (side_edge m l x.left)) f.3 ∙ there)

    go : (i : ℕ) (f : FacedSide) → slice_get ss i ≡ Some f → (o : Option ℕ) → slice_index_or fl.names (class_of fs k) None ≡ o → f.face ≡ class_of fs k → o ≡ f.sector
    go i f e None h face = sym (fl.are_names.none i f e (ap (λ (x : ℕ). slice_index_or fl.names x None) face ∙ h))
    go i f e (Some b) h face = let g = fl.are_names.given (class_of fs k) b h in sym g.4 ∙ one_name ss fl.alike i g.0 f g.1 e g.2 (g.3 ∙ sym face)

-- ---- the good mesh

-- a triangle on the face of a sealed side has no gap
pub no_gap : (m : Map) (ts : List Triangle) (fs : List ℕ) (os : List Bool) (g : AreMarkedFaces m ts fs os) → ((s : Side) → IsSealedAt m ts fs os s) → (k a : ℕ) → HasNamedSide m ts fs k a → k < length ts → ¬ HasGap ts g.walls k
no_gap m ts fs os g sealed k a h lt gap =
    let s = sealed h.side h.line a h.is h.names in
    let e : class_of fs s.0 ≡ class_of fs k = ap (class_of fs) (same_Some s.0 h.j (sym s.1 ∙ h.at)) ∙ sym h.face in
    false≢true (sym s.2 ∙ ap (λ (f : ℕ). slice_index_or os f false) e ∙ g.are_open.gap k lt gap)

pub good_mesh : (m : Map) (ts : List Triangle) (fs : List ℕ) (os : List Bool) (ss : List FacedSide) (ls : List (Option ℕ)) → IsPlainMesh m ts → AreMarkedFaces m ts fs os → AreSealed m ts fs os ss → AreFaceLabels fs ss ls → IsGoodMesh m ts ls
good_mesh m ts fs os ss ls plain g sealed fl = record {
  plain = plain;
  one_each = fl.labelled.one_each ∙ g.are_faces.one_each;
  mates = λ k a t e at label has free.
      let lt = slice_get_within ts k t at in
      let h = named_side m ts fs ss ls sealed.faced fl k a label in
      elim (step_or_gap m ts g.walls k t e g.are_walls at has free) as (λ _. (j : ℕ) × (triangle_at ts (reverse_of e) ≡ Some j) × (label_of ls j ≡ Some a)) [
        | inr gap ↦ absurd (no_gap m ts fs os g sealed.each k a h lt gap)
        | inl (j, behind, link) ↦ let len = g.are_faces.one_each in let lj = triangle_within ts (reverse_of e) j behind in
            (j, behind, label_name fs fl.names ls j fl.labelled (omega (arith, len, lj)) ∙ ap (λ (f : ℕ). slice_index_or fl.names f None) (sym (g.are_faces.linked k j link)) ∙ sym (label_name fs fl.names ls k fl.labelled (omega (arith, len, lt))) ∙ label)
      ];
  fits = record {
    sides = λ s l a at names. let h = sealed.each s l a at names in (h.0, h.1, side_label m ts fs ss ls g.are_faces.one_each sealed.faced fl s l h.0 at h.1 ∙ names);
    no_sides = λ s l k at names there. side_label m ts fs ss ls g.are_faces.one_each sealed.faced fl s l k at there ∙ names;
  };
}

pub labels_in_range : (m : Map) (ts : List Triangle) (fs : List ℕ) (ss : List FacedSide) (ls : List (Option ℕ)) → IsMap m → AreFaced m ts fs ss → AreFaceLabels fs ss ls → (k a : ℕ) → label_of ls k ≡ Some a → a < m.sectors
labels_in_range m ts fs ss ls is faced fl k a label = let h = named_side m ts fs ss ls faced fl k a label in label_below m is h.side h.line a h.is h.names

-- ---- the answers

-- the lists as the calls saw them
pub marked_faces : (m : Map) (ts : List Triangle) (ws w1 w2 : List Walls) (fs f1 f2 : List ℕ) (os o2 : List Bool) → w1 ≡ ws → w2 ≡ ws → f1 ≡ fs → f2 ≡ fs → o2 ≡ os → AreWalls m ts ws → AreFaces ts w1 fs → AreOpen ts w2 f1 os → AreMarkedFaces m ts f2 o2
marked_faces m ts ws w1 w2 fs f1 f2 os o2 ew1 ew2 ef1 ef2 eo2 walls faces opens = record {
  walls = ws;
  are_walls = walls;
  are_faces = subst (λ (x : List Walls). AreFaces ts x f2) ew1 (subst (AreFaces ts w1) (sym ef2) faces);
  are_open = subst (λ (x : List Walls). AreOpen ts x f2 o2) ew2 (subst (λ (x : List ℕ). AreOpen ts w2 x o2) (ef1 ∙ sym ef2) (subst (AreOpen ts w2 f1) (sym eo2) opens));
}

pub mixed_answer : (ss : List FacedSide) (o : Option (ℕ × ℕ)) (i j : ℕ) (d e : FacedSide) → o ≡ Some (i, j) → IsMixedSearch ss o → IsMixedPair ss (slice_index_or ss i d).side (slice_index_or ss j e).side
mixed_answer ss o i j d e is h =
    let f : IsFirstMixed ss i j = subst (IsMixedSearch ss) is h in record {
      i = i;
      j = j;
      least = f;
      first = ap (λ (x : FacedSide). x.side) (get_or_from_slice_get ss i f.first d f.at);
      second = ap (λ (x : FacedSide). x.side) (get_or_from_slice_get ss j f.second e f.at_too);
    }

pub faces_answer : (m : Map) (ts : List Triangle) (fs : List ℕ) (os : List Bool) (ss seen : List FacedSide) (r : Result (List (Option ℕ)) LabelFault) → seen ≡ ss → ((s : Side) → IsSealedAt m ts fs os s) → AreFaced m ts fs ss → IsSidesVerdict fs seen r → IsLabelsVerdict m ts fs os r
faces_answer m ts fs os ss seen r same each faced v = go r (subst (λ (xs : List FacedSide). IsSidesVerdict fs xs r) same v)
  where
    go : (r : Result (List (Option ℕ)) LabelFault) → IsSidesVerdict fs ss r → IsLabelsVerdict m ts fs os r
    go (Ok ls) h = (ss, record { each = each; faced = faced }, h)
    go (Err (Open s)) h = absurd h
    go (Err (Mixed a b)) h = (ss, record { each = each; faced = faced }, h)
    go (Err (Memory _)) h = tt

pub range_answer : (p : PlanParts) → IsPlan p → (ts : List Triangle) (fs : List ℕ) (os : List Bool) (r : Result (List (Option ℕ)) LabelFault) → IsLabelsVerdict (map_of p) ts fs os r → IfOk r (λ l. (k a : ℕ) → label_of l k ≡ Some a → a < p.sectors)
range_answer p is ts fs os (Ok ls) v = λ k a label. labels_in_range (map_of p) ts fs v.0 ls (plan_is_map p is) v.1.faced v.2 k a label
range_answer p is ts fs os (Err e) v = tt

pub good_answer : (m : Map) (ts : List Triangle) (fs : List ℕ) (os : List Bool) (r : Result (List (Option ℕ)) LabelFault) → AreMarkedFaces m ts fs os → IsLabelsVerdict m ts fs os r → IsPlainMesh m ts → IfOk r (IsGoodMesh m ts)
good_answer m ts fs os (Ok ls) g v plain = good_mesh m ts fs os v.0 ls plain g v.1 v.2
good_answer m ts fs os (Err e) g v plain = tt
