-- The mesh rules over the map of groups, and the first of them that is broken.
use Rattle.std.proofs.Common.{◌≡◌, ℕ, pos, ◌<ℤ◌, List, Option, Some, None, map, refl, sym, ◌∙◌, ap, subst, arith, option_and_then}
use Rattle.std.proofs.lemmas.Option.{none-some}
use Rattle.sight_names.specs.declared.names.Pt.{Pt}
use Rattle.sight_names.specs.declared.names.Side.{Side}
use Rattle.sight_names.specs.declared.names.Triangle.{Triangle}
use Rattle.sight_names.specs.declared.faults.MeshFault.{MeshFault}
use Rattle.sight_names.specs.declared.faults.MeshFault.TheVariants.{Flat, Twice, NoMate, NoTriangle, Meets, Inside}
use Rattle.sight_names.specs.Point.{turn_at, point_of}
use Rattle.sight_names.specs.Points.{place}
use Rattle.sight_names.specs.Map.{Map, named}
use Rattle.sight_names.specs.Mesh.{IsGoodMesh, label_of, side_edge, triangle_at}
use Rattle.sight_names.specs.Groups.{unnamed}
use Rattle.mesh_shape.specs.Faults.{TurnsAt, HasMatesAt, FitsAt, IsFirstAgainst, IsFirstSideAgainst, IsFirstFault}
use Rattle.face_groups.specs.GroupsBase.Table.{NamesTheLabels}
use Rattle.face_groups.proofs.GroupsBase.SameLines.{lines_alike, line_of, same_lines_sym}
use Rattle.face_groups.proofs.GroupsBase.SamePoints.{place_alike, side_edge_alike, no_line_edge}
use Rattle.group_checker.specs.Meshes.{HasTriangleAt, IsFirstMeshFault, earlier_of}

-- ---- the rules that don't speak of names, over two maps with the same lines

module _ (m g : Map) (e : map unnamed g.lines ≡ map unnamed m.lines) (ts : List Triangle) (ls : List (Option ℕ)) where
  turns_moved : (k : ℕ) → TurnsAt m ts k → TurnsAt g ts k
  turns_moved k h t at =
      subst (λ (x : Pt). pos 0 <ℤ turn_at x (place g t.q) (point_of (place g t.r))) (place_alike m g e t.p)
      (subst (λ (x : Pt). pos 0 <ℤ turn_at (place m t.p) x (point_of (place g t.r))) (place_alike m g e t.q)
      (subst (λ (x : Pt). pos 0 <ℤ turn_at (place m t.p) (place m t.q) (point_of x)) (place_alike m g e t.r) (h t at)))

  mates_moved : (k : ℕ) → HasMatesAt m ts ls k → HasMatesAt g ts ls k
  mates_moved k h a t f at label has none = h a t f at label has (no_line_edge m g e f none)

first_moved : (P Q : ℕ → Type 0) → ((k : ℕ) → P k → Q k) → ((k : ℕ) → Q k → P k) → (k : ℕ) → IsFirstAgainst P k → IsFirstAgainst Q k
first_moved P Q to back k h = record { against = λ q. h.against (back k q); before = λ j l. to j (h.before j l) }

-- where a side has no triangle, the first rule that is broken is the same over both
pub fault_moved : (m g : Map) → map unnamed g.lines ≡ map unnamed m.lines → (ts : List Triangle) (ls : List (Option ℕ)) (s : Side) → IsFirstSideAgainst (HasTriangleAt m ts) s → (f : MeshFault) → IsFirstMeshFault m m ts ls f → IsFirstMeshFault m g ts ls f
fault_moved m g e ts ls s bare (Flat k) h = first_moved (TurnsAt m ts) (TurnsAt g ts) (turns_moved m g e ts ls) (turns_moved g m (sym e) ts ls) k h
fault_moved m g e ts ls s bare (Twice k) h = ((λ j. turns_moved m g e ts ls j (h.0 j)), h.1)
fault_moved m g e ts ls s bare (NoMate k) h = ((λ j. turns_moved m g e ts ls j (h.0 j)), h.1, first_moved (HasMatesAt m ts ls) (HasMatesAt g ts ls) (mates_moved m g e ts ls) (mates_moved g m (sym e) ts ls) k h.2)
fault_moved m g e ts ls s bare (NoTriangle t) h = ((λ j. turns_moved m g e ts ls j (h.0 j)), h.1, (λ j. mates_moved m g e ts ls j (h.2 j)), h.3)
fault_moved m g e ts ls s bare (Meets k i) h = absurd (bare.against (h.0 s))
fault_moved m g e ts ls s bare (Inside k p) h = absurd (bare.against (h.0 s))

-- ---- the first rule, by that of version 1

pub good_but_bare : (m : Map) (ts : List Triangle) (ls : List (Option ℕ)) (s : Side) → IsFirstSideAgainst (HasTriangleAt m ts) s → IsGoodMesh m ts ls → IsFirstMeshFault m m ts ls (NoTriangle s)
good_but_bare m ts ls s bare good = ((λ j t at. good.plain.turn j t at), (λ k j low t u e f g. good.plain.once j k t u e (λ q. omega (arith, low, q)) f g), (λ j a t f. good.mates j a t f), bare)

pub fault_but_bare : (m : Map) (ts : List Triangle) (ls : List (Option ℕ)) (s : Side) → IsFirstSideAgainst (HasTriangleAt m ts) s → (f : MeshFault) → IsFirstFault m ts ls f → IsFirstMeshFault m m ts ls (earlier_of f s)
fault_but_bare m ts ls s bare (Flat k) h = h
fault_but_bare m ts ls s bare (Twice k) h = h
fault_but_bare m ts ls s bare (NoMate k) h = h
fault_but_bare m ts ls s bare (NoTriangle t) h = (h.0, h.1, h.2, bare)
fault_but_bare m ts ls s bare (Meets k i) h = (h.0, h.1, h.2, bare)
fault_but_bare m ts ls s bare (Inside k p) h = (h.0, h.1, h.2, bare)

-- ---- sides of the map of groups fit

chosen : (ls : List (Option ℕ)) (o : Option ℕ) (a : ℕ) → option_and_then (label_of ls) o ≡ Some a → (k : ℕ) × (o ≡ Some k) × (label_of ls k ≡ Some a)
chosen ls None a e = absurd (none-some a e)
chosen ls (Some k) a e = (k, refl, e)

grouped_fits : (m : Map) (ts : List Triangle) (groups : List (List ℕ)) (ls : List (Option ℕ)) (g : Map) → NamesTheLabels m ts groups ls g → (s : Side) → FitsAt g ts ls s
grouped_fits m ts groups ls g names s = record {
  sector = λ l a is n.
      let b = line_of g m (same_lines_sym m g (lines_alike m g names.lines)) s.line l is in
      let q : named g s ≡ option_and_then (label_of ls) (triangle_at ts (side_edge m b.0 s.left)) = names.names s b.0 b.1 in
      let w = chosen ls (triangle_at ts (side_edge m b.0 s.left)) a (sym q ∙ n) in
      (w.0, ap (triangle_at ts) (side_edge_alike g m (sym names.lines) l b.0 s.left b.2) ∙ w.1, w.2);
  none = λ l k is n at.
      let b = line_of g m (same_lines_sym m g (lines_alike m g names.lines)) s.line l is in
      let q : named g s ≡ option_and_then (label_of ls) (triangle_at ts (side_edge m b.0 s.left)) = names.names s b.0 b.1 in
      let there : triangle_at ts (side_edge m b.0 s.left) ≡ Some k = sym (ap (triangle_at ts) (side_edge_alike g m (sym names.lines) l b.0 s.left b.2)) ∙ at in
      sym (ap (option_and_then (label_of ls)) there) ∙ sym q ∙ n;
}

-- where each side has its triangle, what version 1 tells over the map of groups is the first rule that is broken
pub fault_over : (m : Map) (ts : List Triangle) (groups : List (List ℕ)) (ls : List (Option ℕ)) (g : Map) → NamesTheLabels m ts groups ls g → ((s : Side) → HasTriangleAt m ts s) → (f : MeshFault) → IsFirstFault g ts ls f → IsFirstMeshFault m g ts ls f
fault_over m ts groups ls g names sides (Flat k) h = h
fault_over m ts groups ls g names sides (Twice k) h = h
fault_over m ts groups ls g names sides (NoMate k) h = h
fault_over m ts groups ls g names sides (NoTriangle s) h = absurd (h.3.against (grouped_fits m ts groups ls g names s))
fault_over m ts groups ls g names sides (Meets k i) h = (sides, h)
fault_over m ts groups ls g names sides (Inside k p) h = (sides, h)
