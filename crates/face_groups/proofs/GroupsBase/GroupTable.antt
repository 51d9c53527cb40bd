-- From a table of groups and labels to the groups of a map and the map of groups; and faces that are sealed because labelled triangles have their mates.
use Rattle.std.proofs.Common.{◌≡◌, ◌≢◌, ℕ, ◌<◌, refl, sym, ap, ◌∙◌, subst, inl, inr, List, [], ◌∷◌, length, map, slice_get, Option, Some, None, MatchOption, true, false, Contains, option_and_then}
use Rattle.std.proofs.lemmas.Option.{same_Some, none-some, MatchOption-at_some, MatchOption-at_none}
use Rattle.sight_names.specs.declared.names.Side.{Side}
use Rattle.sight_names.specs.declared.names.Triangle.{Triangle}
use Rattle.sight_names.specs.Map.{Map, MapLine, line_at, named}
use Rattle.sight_names.specs.Points.{Edge, reverse_of}
use Rattle.sight_names.specs.Mesh.{IsLineEdge, HasMates, label_of, side_edge, triangle_at}
use Rattle.sight_names.specs.Groups.{AreSectorsAt, AreGroups, IsGroupedMap, unnamed}
use Rattle.sight_names.proofs.Portals.{triangle_within}
use Rattle.mesh_base.proofs.GoodMesh.{found_at}
use Rattle.face_groups.specs.declared.tri_sectors.faces.Walls.{Walls}
use Rattle.face_groups.specs.TriSectors.Classes.{class_of}
use Rattle.face_groups.specs.TriSectors.Faces.{IsLink, IsRowOfLinks}
use Rattle.face_groups.proofs.TriSectors.FaceRegion.{Ground, GapOn, only_one}
use Rattle.face_groups.proofs.TriSectors.FaceTouches.{free_edge}
use Rattle.face_groups.specs.GroupsBase.Table.{AreUsed, AscendAsLists, NamesLabels, NamedAreLabelled}
use Rattle.face_groups.proofs.GroupsBase.Ordered.{at_contains, contains_at, ascending_same, some_member}
use Rattle.face_groups.proofs.GroupsBase.FaceSectors.{NamedAreSealed, AreNamedOn, at_side, named_are_sectors, no_sectors}
use Rattle.face_groups.proofs.GroupsBase.GroupLabels.{AreGroupLabels, same_names}
use Rattle.face_groups.proofs.GroupsBase.NamedLists.{names_on}

-- ---- sealed by mates

pub line_turned : (m : Map) (e : Edge) → IsLineEdge m (reverse_of e) → IsLineEdge m e
line_turned m e (i, l, true, is, s) = (i, l, false, is, ap reverse_of s)
line_turned m e (i, l, false, is, s) = (i, l, true, is, ap reverse_of s)

module _ (m : Map) (ts : List Triangle) (ws : List Walls) (fs : List ℕ) (d : Ground m ts ws fs) (ls : List (Option ℕ)) (mates : HasMates m ts ls) where
  on : (k j f : ℕ) → IsLink ts ws k j → label_of ls k ≡ Some f → label_of ls j ≡ Some f
  on k j f link label =
      let free = free_edge m ts ws fs d k link.t link.w link.e link.at link.marks link.free in
      let r = mates k f link.t link.e link.at label free.0 free.1 in
      subst (λ (x : ℕ). label_of ls x ≡ Some f) (same_Some r.0 j (sym r.1 ∙ link.behind)) r.2

  back : (i k f : ℕ) → IsLink ts ws i k → label_of ls k ≡ Some f → label_of ls i ≡ Some f
  back i k f link label =
      let free = free_edge m ts ws fs d i link.t link.w link.e link.at link.marks link.free in
      let u = found_at ts (reverse_of link.e) k link.behind in
      let r = mates k f u.0 (reverse_of link.e) u.1 label u.2 (λ line. free.1 (line_turned m link.e line)) in
      subst (λ (x : ℕ). label_of ls x ≡ Some f) (same_Some r.0 i (sym r.1 ∙ only_one m ts d.plain link.e i link.t link.at free.0)) r.2

  row_label : (k : ℕ) (is : List ℕ) (j f : ℕ) → IsRowOfLinks ts ws k is j → label_of ls k ≡ Some f → label_of ls j ≡ Some f
  row_label k [] j f e label = subst (λ (x : ℕ). label_of ls x ≡ Some f) e label
  row_label k (i ∷ is) j f (inl link, row) label = row_label i is j f row (on k i f link label)
  row_label k (i ∷ is) j f (inr link, row) label = row_label i is j f row (back i k f link label)

  -- a labelled triangle is on a face without a gap
  labelled_no_gap : (k f : ℕ) → k < length ts → label_of ls k ≡ Some f → ¬ GapOn ts ws fs (class_of fs k)
  labelled_no_gap k f lt label gap =
      let c = gap.gap in
      let row = d.faces.only k gap.k lt gap.within (sym gap.face) in
      let free = free_edge m ts ws fs d gap.k c.t c.w c.e c.at c.marks c.free in
      let r = mates gap.k f c.t c.e c.at (row_label k row.0 gap.k f row.1 label) free.0 free.1 in
      none-some r.0 (sym c.behind ∙ r.1)

  pub sealed_by_mates : NamedAreLabelled m ts ls → NamedAreSealed m ts ws fs
  sealed_by_mates sides s l a is names =
      let r = sides s l a is names in
      (r.0, r.1, labelled_no_gap r.0 r.2.0 (triangle_within ts (side_edge m l s.left) r.0 r.1) r.2.1)

-- ---- the groups of a table

module _ (m : Map) (ts : List Triangle) (ws : List Walls) (fs : List ℕ) (d : Ground m ts ws fs) (sealed : NamedAreSealed m ts ws fs)
    (groups : List (List ℕ)) (ls : List (Option ℕ)) (labels : AreGroupLabels m ts fs groups ls) where
  -- a side with this list, which has a member
  record HasSideOf (at : List ℕ) : Type 0 where
    s : Side
    l : MapLine
    is : line_at m s.line ≡ Some l
    sectors : AreSectorsAt m s at

  side_of_group : (f k : ℕ) (at : List ℕ) → slice_get groups f ≡ Some at → at ≢ [] → k < length ts → label_of ls k ≡ Some f → HasSideOf at
  side_of_group f k at there some lt label =
      let n = names_on m ts fs k in
      let equal : n.0 ≡ at = same_Some n.0 at (sym (MatchOption-at_some (n.0 ≡ []) (λ x. slice_get groups x ≡ Some n.0) f label (labels.each k n.0 lt n.1)) ∙ there) in
      let c = some_member at some in
      let h = (n.1.exactly c.0).0 (subst (λ (x : List ℕ). Contains x c.0) (sym equal) c.1) in
      let on : AreNamedOn m ts fs h.j at = same_names m ts fs k h.j at (sym h.face) (subst (λ (x : List ℕ). AreNamedOn m ts fs k x) equal n.1) in
      record { s = h.side; l = h.line; is = h.is; sectors = (named_are_sectors m ts ws fs d sealed h.side h.line h.j at h.is h.at).0 on }

  group_of_side : (s : Side) (l : MapLine) (at : List ℕ) → at ≢ [] → line_at m s.line ≡ Some l → AreSectorsAt m s at → Contains groups at
  group_of_side s l at some is sectors =
      let c = some_member at some in
      let w = (sectors.exactly c.0).0 c.1 in
      let r = at_side m ts ws fs d sealed s w.0 c.0 w.1 w.2 in
      let there : triangle_at ts (side_edge m l s.left) ≡ Some r.k = subst (λ (x : MapLine). triangle_at ts (side_edge m x s.left) ≡ Some r.k) (same_Some w.1.line l (sym w.1.is ∙ is)) r.there in
      let on = (named_are_sectors m ts ws fs d sealed s l r.k at is there).1 sectors in
      go r.k (labels.each r.k at (triangle_within ts (side_edge m l s.left) r.k there) on) (label_of ls r.k) refl
    where
      go : (k : ℕ) → MatchOption (label_of ls k) (at ≡ []) (λ f. slice_get groups f ≡ Some at) → (o : Option ℕ) → label_of ls k ≡ o → Contains groups at
      go k h None e = absurd (some (MatchOption-at_none (at ≡ []) (λ f. slice_get groups f ≡ Some at) e h))
      go k h (Some f) e = at_contains groups at (f, MatchOption-at_some (at ≡ []) (λ x. slice_get groups x ≡ Some at) f e h)

  -- the table is the list of the map's groups
  pub table_is_groups : AscendAsLists groups → AreUsed ts groups ls → AreGroups m groups
  table_is_groups up used = record {
    ascend = up;
    exactly = λ at. (
      λ c. let p = contains_at groups at c in let u = used p.0 at p.1 in let h = side_of_group p.0 u.1.0 at p.1 u.0 u.1.1 u.1.2 in (u.0, h.s, h.l, h.is, h.sectors),
      λ h. group_of_side h.1 h.2 at h.0 h.3 h.4,
    );
  }

  -- the map whose sides name the labels of their triangles is the map of groups
  pub labelled_is_grouped : (g : Map) → g.sectors ≡ length groups → map unnamed g.lines ≡ map unnamed m.lines → NamesLabels m ts ls g → IsGroupedMap m groups g
  labelled_is_grouped g count lines names = record { sectors = count; lines = lines; names = λ s l at is sectors. go s l at is sectors (triangle_at ts (side_edge m l s.left)) refl }
    where
      go : (s : Side) (l : MapLine) (at : List ℕ) → line_at m s.line ≡ Some l → AreSectorsAt m s at → (o : Option ℕ) → triangle_at ts (side_edge m l s.left) ≡ o → MatchOption (named g s) (at ≡ []) (λ k. slice_get groups k ≡ Some at)
      go s l at is sectors None there =
          let none = no_sectors m ts ws fs d sealed s l is there in
          let empty : at ≡ [] = ascending_same at [] sectors.ascend none.ascend (λ a. (λ c. (none.exactly a).1 ((sectors.exactly a).0 c), λ c. (sectors.exactly a).1 ((none.exactly a).0 c))) in
          subst (λ (o : Option ℕ). MatchOption o (at ≡ []) (λ k. slice_get groups k ≡ Some at)) (sym (names s l is ∙ ap (option_and_then (label_of ls)) there)) empty
      go s l at is sectors (Some k) there =
          let on = (named_are_sectors m ts ws fs d sealed s l k at is there).1 sectors in
          subst (λ (o : Option ℕ). MatchOption o (at ≡ []) (λ x. slice_get groups x ≡ Some at)) (sym (names s l is ∙ ap (option_and_then (label_of ls)) there)) (labels.each k at (triangle_within ts (side_edge m l s.left) k there) on)
