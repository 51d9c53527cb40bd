-- A map that is refused has one list of marks.
use Rattle.std.proofs.Common.{◌≡◌, ◌≢◌, ℕ, ◌-◌, List, [], ◌∷◌, length, map, slice_get, Contains, Option, Some, None, Bool, true, false, option_and_then, refl, sym, ap, ap₂, ◌∙◌, subst, subst₂}
use Rattle.std.proofs.lemmas.Option.{same_Some}
use Rattle.sight_names.specs.declared.faults.LineFault.{LineFault}
use Rattle.sight_names.specs.declared.names.Side.{Side}
use Rattle.sight_names.specs.declared.names.Triangle.{Triangle}
use Rattle.sight_names.specs.declared.plan.Line.{Line}
use Rattle.sight_names.specs.Map.{Map, MapLine, line_at, looked_up, map_of}
use Rattle.sight_names.specs.Mesh.{side_edge}
use Rattle.sight_names.specs.Plan.{IsPlan, PlanParts}
use Rattle.sight_names.specs.Points.{Edge}
use Rattle.sight_names.specs.Sound.{LinesMeetAtEnds}
use Rattle.sight_names.proofs.OneMesh.{one_mesh}
use Rattle.sight_names.proofs.OnePlan.{one_plan}
use Rattle.sight_names.proofs.PlanMap.{line_of_plan}
use Rattle.mesh_shape.specs.HalfEdges.Kinds.{portal_on}
use Rattle.mesh_shape.specs.HalfEdges.Numbers.{half_edge_number}
use Rattle.face_groups.proofs.TriSectors.SideLemmas.{edge_of_side, side_is}
use Rattle.portal_walk.proofs.Alone.{one_record}
use Rattle.map_faults.specs.declared.clashes.LinePair.{LinePair}
use Rattle.map_faults.specs.declared.loose_ends.LooseEnd.{LooseEnd}
use Rattle.map_faults.specs.declared.tears.Tear.{Tear}
use Rattle.map_faults.specs.EdgeSides.{AreEdgeSides, IsSideOfEdge, side_by}
use Rattle.map_faults.specs.LooseEnds.{AreLooseEnds}
use Rattle.map_faults.proofs.OneOfEach.{one_corner, one_fault_of, one_first, one_loose, one_open, one_order, one_tears}
use Rattle.map_picture.specs.declared.arrows.Arrow.{Arrow}
use Rattle.map_picture.specs.declared.faults.FaultAt.{FaultAt}
use Rattle.map_picture.specs.declared.faults.PointFault.TheVariants as point
use Rattle.fault_marks.specs.declared.marks.FaultMarks.{FaultMarks}
use Rattle.fault_marks.specs.Arrows.{AreArrowsOf, AreTornWith}
use Rattle.fault_marks.proofs.Around.{one_arrows}
use Rattle.fault_marks.specs.Marks.{AreClashesAt, AreOfClashes, AreOfOpenFaces, IsClashAt, faults_of, lines_of_pairs}

-- ---- clashes

one_at : (m : Map) (p : LinePair) (a b : FaultAt) → IsClashAt m p a → IsClashAt m p b → a ≡ b
one_at m p a b h k = λ i. record { fault = what i; at = place i }
  where
    what : a.fault ≡ b.fault
    what = h.told ∙ ap (λ (f : LineFault). point.Clash f) (one_fault_of m p.i p.j h.fault k.fault h.is k.is) ∙ sym k.told

    place : a.at ≡ b.at
    place = one_corner m p.i p.j h.fault a.at b.at h.is h.at k.at

one_faults : (m : Map) (ps : List LinePair) (xs ys : List FaultAt) → AreClashesAt m ps xs → AreClashesAt m ps ys → xs ≡ ys
one_faults m [] [] [] h k = refl
one_faults m [] [] (y ∷ ys) h k = absurd k
one_faults m [] (x ∷ xs) ys h k = absurd h
one_faults m (p ∷ ps) [] ys h k = absurd h
one_faults m (p ∷ ps) (x ∷ xs) [] h k = absurd k
one_faults m (p ∷ ps) (x ∷ xs) (y ∷ ys) h k = ap₂ (λ (a : FaultAt) (rest : List FaultAt). a ∷ rest) (one_at m p x y h.0 k.0) (one_faults m ps xs ys h.1 k.1)

pub one_of_clashes : (m : Map) (x y : FaultMarks) → AreOfClashes m x → AreOfClashes m y → x ≡ y
one_of_clashes m x y h k = λ i. record { left_out = left i; lines = lines i; faults = faults i; arrows = arrows i }
  where
    both : (h.first ≡ k.first) × (h.count ≡ k.count)
    both = one_first m h.first k.first h.count k.count h.are k.are

    left : x.left_out ≡ y.left_out
    left = h.left_out ∙ ap₂ (λ (ps : List LinePair) (c : ℕ). c - length ps) both.0 both.1 ∙ sym k.left_out

    lines : x.lines ≡ y.lines
    lines = one_order (lines_of_pairs h.first) (lines_of_pairs k.first) x.lines y.lines h.lines k.lines
        (λ n c. subst (λ (ps : List LinePair). Contains (lines_of_pairs ps) n) both.0 c) (λ n c. subst (λ (ps : List LinePair). Contains (lines_of_pairs ps) n) (sym both.0) c)

    arrows : x.arrows ≡ y.arrows
    arrows = h.arrows ∙ sym k.arrows

    faults : x.faults ≡ y.faults
    faults = one_faults m k.first x.faults y.faults (subst (λ (ps : List LinePair). AreClashesAt m ps x.faults) both.0 h.faults) k.faults

-- ---- which side an edge is

same_left : (l : Line) → l.a ≢ l.b → (a b : Bool) → edge_of_side l a ≡ edge_of_side l b → a ≡ b
same_left l n true true e = refl
same_left l n false false e = refl
same_left l n true false e = absurd (n (ap (λ (x : Edge). x.from) e))
same_left l n false true e = absurd (n (sym (ap (λ (x : Edge). x.from) e)))

module _ (p : PlanParts) (plan : IsPlan p) (ends : LinesMeetAtEnds (map_of p)) where
  two_sides : (e : Edge) (s t : Side) (k l : MapLine) → line_at (map_of p) s.line ≡ Some k → line_at (map_of p) t.line ≡ Some l → side_edge (map_of p) k s.left ≡ e → side_edge (map_of p) l t.left ≡ e → s ≡ t
  two_sides e s t k l at there is is_too = λ i. record { line = line i; left = left i }
    where
      line : s.line ≡ t.line
      line = one_record p plan ends (portal_on e) s.line t.line k l s.left t.left at there is is_too

      same : k ≡ l
      same = same_Some k l (sym at ∙ ap (line_at (map_of p)) line ∙ there)

      y : (x : Line) × (slice_get p.lines t.line ≡ Some (Some x)) × (looked_up p.points x ≡ l)
      y = line_of_plan p.points p.lines t.line l there

      edge_is : (left : Bool) → side_edge (map_of p) l left ≡ e → edge_of_side y.0 left ≡ e
      edge_is left h = sym (side_is p plan t.line y.0 left y.1) ∙ ap (λ (x : MapLine). side_edge (map_of p) x left) y.2 ∙ h

      left : s.left ≡ t.left
      left = same_left y.0 (plan.each t.line y.0 y.1).differ s.left t.left (edge_is s.left (ap (λ (x : MapLine). side_edge (map_of p) x s.left) (sym same) ∙ is) ∙ sym (edge_is t.left is_too))

  one_side : (e : Edge) (o u : Option Side) → IsSideOfEdge (map_of p) e o → IsSideOfEdge (map_of p) e u → o ≡ u
  one_side e None None h k = refl
  one_side e None (Some t) h (l, there, is) = absurd (h (t.line, l, t.left, there, sym is))
  one_side e (Some s) None (k, at, is) h = absurd (h (s.line, k, s.left, at, sym is))
  one_side e (Some s) (Some t) (k, at, is) (l, there, is_too) = ap (λ (x : Side). Some x) (two_sides e s t k l at there is is_too)

  abbrev at_number : List (Option Side) → Option ℕ → Option Side
  at_number ss n = option_and_then (λ i. option_and_then (λ (o : Option Side). o) (slice_get ss i)) n

  same_sides : (ts : List Triangle) (ss us : List (Option Side)) → AreEdgeSides (map_of p) ts ss → AreEdgeSides (map_of p) ts us → (e : Edge) → side_by ts ss e ≡ side_by ts us e
  same_sides ts ss us h k e = go (half_edge_number ts e) refl
    where
      go : (n : Option ℕ) → half_edge_number ts e ≡ n → at_number ss (half_edge_number ts e) ≡ at_number us (half_edge_number ts e)
      go None q = ap (at_number ss) q ∙ sym (ap (at_number us) q)
      go (Some i) q =
          let a = h.each e i q in
          let b = k.each e i q in
          ap (at_number ss) q ∙ ap (option_and_then (λ (o : Option Side). o)) a.1 ∙ one_side e a.0 b.0 a.2 b.2 ∙ sym (ap (at_number us) q ∙ ap (option_and_then (λ (o : Option Side). o)) b.1)

  one_torn : (ts : List Triangle) (tears more : List Tear) (vs ws : List Arrow) → AreTornWith p ts tears vs → AreTornWith p ts more ws → (tears ≡ more) × (vs ≡ ws)
  one_torn ts tears more vs ws h k =
      let same : (e : Edge) → side_by ts h.0 e ≡ side_by ts k.0 e = same_sides ts h.0 k.0 h.1 k.1 in
      let torn : tears ≡ more = one_tears p ts h.0 k.0 same tears more h.2 k.2 in
      (torn, one_arrows (map_of p) ts h.0 k.0 same more vs ws (subst (λ (us : List Tear). AreArrowsOf (map_of p) ts h.0 us vs) torn h.3) k.3)

-- ---- open faces

pub one_of_open_faces : (m : Map) (x y : FaultMarks) → LinesMeetAtEnds m → AreOfOpenFaces m x → AreOfOpenFaces m y → x ≡ y
one_of_open_faces m x y meet h k = λ i. record { left_out = left i; lines = lines i; faults = faults i; arrows = arrows i }
  where
    left : x.left_out ≡ y.left_out
    left = h.left_out ∙ sym k.left_out

    sides : h.sides ≡ k.sides
    sides = one_open m h.sides k.sides h.against k.against

    lines : x.lines ≡ y.lines
    lines = one_order (map (λ (s : Side). s.line) h.sides) (map (λ (s : Side). s.line) k.sides) x.lines y.lines h.lines k.lines
        (λ n c. subst (λ (ss : List Side). Contains (map (λ (s : Side). s.line) ss) n) sides c) (λ n c. subst (λ (ss : List Side). Contains (map (λ (s : Side). s.line) ss) n) (sym sides) c)

    same : h.p ≡ k.p
    same = one_plan h.p k.p h.plan k.plan (h.stands ∙ sym k.stands)

    meet_too : LinesMeetAtEnds (map_of k.p)
    meet_too = subst (λ (n : Map). LinesMeetAtEnds n) (sym k.stands) meet

    torn : (h.tears ≡ k.tears) × (x.arrows ≡ y.arrows)
    torn = one_torn k.p k.plan meet_too k.triangles h.tears k.tears x.arrows y.arrows (subst₂ (λ (q : PlanParts) (ts : List Triangle). AreTornWith q ts h.tears x.arrows) same (one_mesh m h.triangles k.triangles h.mesh k.mesh) h.torn) k.torn

    arrows : x.arrows ≡ y.arrows
    arrows = torn.1

    corners : h.corners ≡ k.corners
    corners = one_order (map (λ (t : Tear). t.point) h.tears) (map (λ (t : Tear). t.point) k.tears) h.corners k.corners h.points k.points
        (λ n c. subst (λ (ts : List Tear). Contains (map (λ (t : Tear). t.point) ts) n) torn.0 c) (λ n c. subst (λ (ts : List Tear). Contains (map (λ (t : Tear). t.point) ts) n) (sym torn.0) c)

    loose : h.ends ≡ k.ends
    loose = one_loose k.p h.ends k.ends (subst (λ (q : PlanParts). AreLooseEnds q h.ends) same h.loose) k.loose

    faults : x.faults ≡ y.faults
    faults = h.faults ∙ ap (λ (q : PlanParts). faults_of q h.corners h.ends) same ∙ ap₂ (λ (cs : List ℕ) (es : List LooseEnd). faults_of k.p cs es) corners loose ∙ sym k.faults
