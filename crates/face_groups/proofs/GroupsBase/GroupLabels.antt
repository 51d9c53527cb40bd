-- The labels of groups: each triangle has the group of the sectors that the sides of its face name. With them the mesh is good for the map of groups.
use Rattle.std.proofs.Common.{◌≡◌, ℕ, ◌<◌, refl, sym, ap, ◌∙◌, subst, inl, inr, List, [], length, slice_get, Option, Some, None, MatchOption, Contains, Bool}
use Rattle.std.proofs.lemmas.Option.{slice_get_within, same_Some, MatchOption-at_some, MatchOption-at_none}
use Rattle.sight_names.specs.declared.names.Side.{Side}
use Rattle.sight_names.specs.declared.names.Triangle.{Triangle}
use Rattle.sight_names.specs.Point.{Point}
use Rattle.sight_names.specs.Map.{Map, MapLine, line_at, named, Names}
use Rattle.sight_names.specs.Path.{InSector}
use Rattle.sight_names.specs.Points.{Edge, reverse_of}
use Rattle.sight_names.specs.Mesh.{HasEdge, IsLineEdge, InsideTriangle, AreLabelsOf, IsGoodMesh, label_of, side_edge, triangle_at}
use Rattle.sight_names.specs.Groups.{AreGroups, IsGroupedMap}
use Rattle.sight_names.proofs.Portals.{triangle_within}
use Rattle.mesh_base.proofs.SightLaws.Bridge.{vec}
use Rattle.mesh_base.proofs.SightLaws.Paths.{Holds}
use Rattle.mesh_base.proofs.GoodMesh.{tri_of, found_at, in_all}
use Rattle.mesh_shape.specs.Fills.{FillsSides}
use Rattle.face_groups.specs.declared.tri_sectors.faces.Walls.{Walls}
use Rattle.face_groups.specs.TriSectors.Classes.{class_of}
use Rattle.face_groups.proofs.TriSectors.GoodLabels.{HasNamedSide, step_or_gap}
use Rattle.face_groups.proofs.TriSectors.FacePaths.{leads_join}
use Rattle.face_groups.proofs.TriSectors.FaceRegion.{Ground, face_list, numbers, on_face, reaches}
use Rattle.face_groups.proofs.TriSectors.FaceTouches.{centre_of, linked_leads, strictly, closed_of_strict, inside_is_free, to_centre, touches, out_of_gap, gap_edge}
use Rattle.face_groups.proofs.GroupsBase.SameLines.{HaveSameLines, same_line_sym, same_lines_sym, lines_alike, line_of, free_alike, touches_alike}
use Rattle.face_groups.proofs.GroupsBase.SamePoints.{side_edge_alike, inside_alike, no_line_edge, plain_alike}
use Rattle.face_groups.proofs.GroupsBase.Ordered.{at_contains, ascending_same, one_place, some_member, empty_has_none}
use Rattle.face_groups.proofs.GroupsBase.FaceSectors.{NamedAreSealed, AreNamedOn, at_side, named_no_gap, named_are_sectors, closed_where_sealed}
use Rattle.face_groups.proofs.GroupsBase.GroupLaws.{HasLists, moved, named_group, side_group, in_its_sectors}
use Rattle.face_groups.proofs.GroupsBase.NamedLists.{names_on}

-- the label of each triangle is the place of the list of its face, or none where that is empty
pub record AreGroupLabels (m : Map) (ts : List Triangle) (fs : List ℕ) (groups : List (List ℕ)) (ls : List (Option ℕ)) : Type 0 where
  pub one_each : length ls ≡ length ts
  pub each : (k : ℕ) (names : List ℕ) → k < length ts → AreNamedOn m ts fs k names → MatchOption (label_of ls k) (names ≡ []) (λ f. slice_get groups f ≡ Some names)

pub same_names : (m : Map) (ts : List Triangle) (fs : List ℕ) (k j : ℕ) (names : List ℕ) → class_of fs j ≡ class_of fs k → AreNamedOn m ts fs k names → AreNamedOn m ts fs j names
same_names m ts fs k j names e n = record { ascend = n.ascend; exactly = λ a. (λ c. moved m ts fs k j a e ((n.exactly a).0 c), λ h. (n.exactly a).1 (moved m ts fs j k a (sym e) h)) }

pub one_list : (m : Map) (ts : List Triangle) (fs : List ℕ) (k : ℕ) (xs ys : List ℕ) → AreNamedOn m ts fs k xs → AreNamedOn m ts fs k ys → xs ≡ ys
one_list m ts fs k xs ys a b = ascending_same xs ys a.ascend b.ascend (λ x. (λ c. (b.exactly x).1 ((a.exactly x).0 c), λ c. (a.exactly x).1 ((b.exactly x).0 c)))

module _ (m : Map) (ts : List Triangle) (ws : List Walls) (fs : List ℕ) (d : Ground m ts ws fs) (sealed : NamedAreSealed m ts ws fs)
    (groups : List (List ℕ)) (are : AreGroups m groups) (g : Map) (is : IsGroupedMap m groups g) (lists : HasLists m) (ls : List (Option ℕ)) (labels : AreGroupLabels m ts fs groups ls) where
  same : HaveSameLines m g
  same = lines_alike m g is.lines

  back : HaveSameLines g m
  back = same_lines_sym m g same

  not_empty : (f : ℕ) (at : List ℕ) → slice_get groups f ≡ Some at → (a : ℕ) × Contains at a
  not_empty f at there = some_member at ((are.exactly at).0 (at_contains groups at (f, there))).0

  label_place : (k f : ℕ) (names : List ℕ) → k < length ts → AreNamedOn m ts fs k names → label_of ls k ≡ Some f → slice_get groups f ≡ Some names
  label_place k f names lt n label = MatchOption-at_some (names ≡ []) (λ x. slice_get groups x ≡ Some names) f label (labels.each k names lt n)

  no_label : (k : ℕ) (names : List ℕ) → k < length ts → AreNamedOn m ts fs k names → label_of ls k ≡ None → names ≡ []
  no_label k names lt n label = MatchOption-at_none (names ≡ []) (λ x. slice_get groups x ≡ Some names) label (labels.each k names lt n)

  -- a triangle on a face of this list has the label of its place
  label_is : (k f a : ℕ) (names : List ℕ) → k < length ts → AreNamedOn m ts fs k names → Contains names a → slice_get groups f ≡ Some names → label_of ls k ≡ Some f
  label_is k f a names lt n has there = go (label_of ls k) refl
    where
      go : (o : Option ℕ) → label_of ls k ≡ o → label_of ls k ≡ Some f
      go None e = absurd (empty_has_none names a (no_label k names lt n e) has)
      go (Some h) e = e ∙ ap (λ (x : ℕ). Some x) (one_place m groups are h f names (label_place k h names lt n e) there)

  mates : (k f : ℕ) (t : Triangle) (e : Edge) → slice_get ts k ≡ Some t → label_of ls k ≡ Some f → HasEdge t e → ¬ IsLineEdge g e → (j : ℕ) × (triangle_at ts (reverse_of e) ≡ Some j) × (label_of ls j ≡ Some f)
  mates k f t e at label has none =
      let lt = slice_get_within ts k t at in
      let n = names_on m ts fs k in
      let place = label_place k f n.0 lt n.1 label in
      let c = not_empty f n.0 place in
      let h = (n.1.exactly c.0).0 c.1 in
      elim (step_or_gap m ts ws k t e d.walls at has (no_line_edge m g is.lines e none)) as (λ _. (j : ℕ) × (triangle_at ts (reverse_of e) ≡ Some j) × (label_of ls j ≡ Some f)) [
        | inr gap ↦ absurd (named_no_gap m ts ws fs d sealed k c.0 h (record { k = k; within = lt; face = refl; gap = gap }))
        | inl (j, behind, link) ↦ (j, behind, label_is j f c.0 n.0 (triangle_within ts (reverse_of e) j behind) (same_names m ts fs k j n.0 (sym (d.faces.linked k j link)) n.1) c.1 place)
      ]

  at_edge_of : (l k : MapLine) (left : Bool) (j : ℕ) → side_edge m l left ≡ side_edge g k left → triangle_at ts (side_edge m l left) ≡ Some j → triangle_at ts (side_edge g k left) ≡ Some j
  at_edge_of l k left j e there = subst (λ (x : Edge). triangle_at ts x ≡ Some j) e there

  sides : (s : Side) (l : MapLine) (f : ℕ) → line_at g s.line ≡ Some l → Names g s f → (k : ℕ) × (triangle_at ts (side_edge g l s.left) ≡ Some k) × (label_of ls k ≡ Some f)
  sides s l f at names =
      let b = line_of g m back s.line l at in
      let n = named_group m ts ws fs d sealed groups are g is lists s b.0 f b.1 names in
      let c = not_empty f n.at n.there in
      let w = (n.sectors.exactly c.0).0 c.1 in
      let r = at_side m ts ws fs d sealed s w.0 c.0 w.1 w.2 in
      let there : triangle_at ts (side_edge m b.0 s.left) ≡ Some r.k = subst (λ (x : MapLine). triangle_at ts (side_edge m x s.left) ≡ Some r.k) (same_Some w.1.line b.0 (sym w.1.is ∙ b.1)) r.there in
      let on = (named_are_sectors m ts ws fs d sealed s b.0 r.k n.at b.1 there).1 n.sectors in
      (r.k, at_edge_of b.0 l s.left r.k (side_edge_alike m g is.lines b.0 l s.left (same_line_sym l b.0 b.2)) there, label_is r.k f c.0 n.at (triangle_within ts (side_edge m b.0 s.left) r.k there) on c.1 n.there)

  no_sides : (s : Side) (l : MapLine) (k : ℕ) → line_at g s.line ≡ Some l → named g s ≡ None → triangle_at ts (side_edge g l s.left) ≡ Some k → label_of ls k ≡ None
  no_sides s l k at names there =
      let b = line_of g m back s.line l at in
      let x = lists s b.0 b.1 in
      let empty = MatchOption-at_none (x.0 ≡ []) (λ y. slice_get groups y ≡ Some x.0) names (is.names s b.0 x.0 b.1 x.1) in
      let here : triangle_at ts (side_edge m b.0 s.left) ≡ Some k = subst (λ (y : Edge). triangle_at ts y ≡ Some k) (sym (side_edge_alike m g is.lines b.0 l s.left (same_line_sym l b.0 b.2))) there in
      let on = (named_are_sectors m ts ws fs d sealed s b.0 k x.0 b.1 here).1 x.1 in
      go x.0 (triangle_within ts (side_edge m b.0 s.left) k here) on empty (label_of ls k) refl
    where
      go : (names : List ℕ) → k < length ts → AreNamedOn m ts fs k names → names ≡ [] → (o : Option ℕ) → label_of ls k ≡ o → label_of ls k ≡ None
      go names lt on empty None e = e
      go names lt on empty (Some f) e = let c = not_empty f names (label_place k f names lt on e) in absurd (empty_has_none names c.0 empty c.1)

  -- the mesh with these labels is good for the map of groups
  pub good_for_groups : IsGoodMesh g ts ls
  good_for_groups = record { plain = plain_alike m g is.lines ts d.plain; one_each = labels.one_each; mates = mates; fits = record { sides = sides; no_sides = no_sides } }

  -- ---- the labels are the groups in which the insides lie

  module _ (filled : FillsSides m ts) where
    -- a point inside a triangle that is in a sector: a side of the triangle's face names it
    named_inside : (k a : ℕ) (t : Triangle) (p : Point) → slice_get ts k ≡ Some t → InsideTriangle m t p → InSector m p a → HasNamedSide m ts fs k a
    named_inside k a t p at inside i =
        let f = class_of fs k in
        let holds : Holds (face_list m ts fs f) p = (tri_of m t, in_all m f ts (numbers fs) (tri_of m t) (on_face m ts ws fs d f k t (tri_of m t) at refl (inl refl)), closed_of_strict m ts ws fs d (tri_of m t) (vec p) (strictly m ts ws fs d t p inside)) in
        elim (reaches m ts ws fs d f i.side p i.touches holds) as (λ _. HasNamedSide m ts fs k a) [
          | inl (j, there, face) ↦ record { side = i.side; line = i.touches.line; is = i.touches.is; names = i.names; j = j; at = there; face = sym face }
          | inr gap ↦ absurd (
              let c = gap.gap in
              let linked = d.faces.only k gap.k (slice_get_within ts k t at) gap.within (sym gap.face) in
              let out = out_of_gap m ts ws fs d gap.k c (filled.beyond gap.k c.t c.e c.at (gap_edge m ts ws fs d gap.k c)) in
              let way = leads_join m p (centre_of m t) (centre_of m c.t) (to_centre m ts ws fs d k t p at inside) (linked_leads m ts ws fs d k gap.k t c.t at c.at linked) in
              closed_where_sealed m ts ws fs d sealed i.side a p out.0 i.names i.touches (leads_join m p (centre_of m c.t) out.0 way out.1) out.2)
        ]

    labelled : (k f : ℕ) (t : Triangle) (p : Point) → slice_get ts k ≡ Some t → label_of ls k ≡ Some f → InsideTriangle g t p → InSector g p f
    labelled k f t p at label inside_g =
        let inside = inside_alike g m (sym is.lines) t p inside_g in
        let lt = slice_get_within ts k t at in
        let n = names_on m ts fs k in
        let place = label_place k f n.0 lt n.1 label in
        let c = not_empty f n.0 place in
        let h = (n.1.exactly c.0).0 c.1 in
        let u = found_at ts (side_edge m h.line h.side.left) h.j h.at in
        let linked = d.faces.only k h.j lt (slice_get_within ts h.j u.0 u.1) h.face in
        let way = leads_join m p (centre_of m t) (centre_of m u.0) (to_centre m ts ws fs d k t p at inside) (linked_leads m ts ws fs d k h.j t u.0 at u.1 linked) in
        let x = lists h.side h.line h.is in
        let on = (named_are_sectors m ts ws fs d sealed h.side h.line h.j x.0 h.is h.at).1 x.1 in
        let equal : n.0 ≡ x.0 = one_list m ts fs h.j n.0 x.0 (same_names m ts fs k h.j n.0 (sym h.face) n.1) on in
        let r = side_group m ts ws fs d sealed groups are g is lists h.side h.line c.0 x.0 h.is x.1 (subst (λ (ys : List ℕ). Contains ys c.0) equal c.1) in
        let one : r.0 ≡ f = one_place m groups are r.0 f x.0 r.2 (place ∙ ap (λ (ys : List ℕ). Some ys) equal) in
        record {
          free = free_alike m g same p (inside_is_free m ts ws fs d k t p at inside);
          side = h.side;
          touches = touches_alike m g same p h.side (touches m ts ws fs d h.side h.line h.j p u.0 h.is h.at u.1 way);
          names = subst (λ (y : ℕ). Names g h.side y) one r.1;
        }

    unlabelled : (k f : ℕ) (t : Triangle) (p : Point) → slice_get ts k ≡ Some t → label_of ls k ≡ None → InsideTriangle g t p → ¬ InSector g p f
    unlabelled k f t p at label inside_g i =
        let inside = inside_alike g m (sym is.lines) t p inside_g in
        let tm = touches_alike g m back p i.side i.touches in
        let q = named_group m ts ws fs d sealed groups are g is lists i.side tm.line f tm.is i.names in
        let c = not_empty f q.at q.there in
        let h = named_inside k c.0 t p at inside (in_its_sectors m ts ws fs d sealed groups are g is lists p f c.0 i (q.at, q.there, c.1)) in
        let n = names_on m ts fs k in
        empty_has_none n.0 c.0 (no_label k n.0 (slice_get_within ts k t at) n.1 label) ((n.1.exactly c.0).1 h)

    pub labels_of_groups : AreLabelsOf g ts ls
    labels_of_groups = record { one_each = labels.one_each; labelled = labelled; unlabelled = unlabelled }
