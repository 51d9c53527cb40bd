-- The sectors of a face in the words of the mesh alone: triangles linked across edges that are no lines.
use Rattle.std.proofs.Common.{◌≡◌, ℕ, ◌<◌, inl, inr, ◌↔◌, List, [], ◌∷◌, length, Some, arith}
use Rattle.std.proofs.lemmas.Option.{slice_get_within, slice_get-get_or}
use Rattle.sight_names.specs.declared.names.Side.{Side}
use Rattle.sight_names.specs.declared.names.Triangle.{Triangle}
use Rattle.sight_names.specs.Map.{Map, MapLine, line_at}
use Rattle.sight_names.specs.Points.{reverse_of}
use Rattle.sight_names.specs.Mesh.{side_edge, triangle_at}
use Rattle.sight_names.specs.Groups.{AreSectorsAt}
use Rattle.sight_names.proofs.Portals.{triangle_within}
use Rattle.mesh_base.proofs.GoodMesh.{found_at}
use Rattle.face_groups.specs.declared.tri_sectors.faces.Walls.{Walls}
use Rattle.face_groups.specs.TriSectors.Classes.{class_of}
use Rattle.face_groups.specs.TriSectors.Faces.{IsLink, IsRowOfLinks}
use Rattle.face_groups.proofs.TriSectors.GoodLabels.{HasNamedSide, walls_at}
use Rattle.face_groups.proofs.TriSectors.FaceLemmas.{any_walls}
use Rattle.face_groups.proofs.TriSectors.GoodLabels as good
use Rattle.face_groups.proofs.TriSectors.FaceRegion.{Ground, only_one}
use Rattle.face_groups.proofs.TriSectors.FaceTouches.{free_edge}
use Rattle.face_groups.specs.GroupsBase.Named.{AreAcross, IsWay, AreOnOneFace, IsNamedAt, AreNamedAt}
use Rattle.face_groups.proofs.GroupsBase.FaceSectors.{AreNamedOn, NamedAreSealed, named_are_sectors, one_face}
use Rattle.face_groups.proofs.GroupsBase.GroupTable.{line_turned}

module _ (m : Map) (ts : List Triangle) (ws : List Walls) (fs : List ℕ) (d : Ground m ts ws fs) where
  across_of_link : (k j : ℕ) → IsLink ts ws k j → AreAcross m ts k j
  across_of_link k j link =
      let f = free_edge m ts ws fs d k link.t link.w link.e link.at link.marks link.free in
      let u = found_at ts (reverse_of link.e) j link.behind in
      record { t = link.t; u = u.0; e = link.e; at = link.at; at_too = u.1; has = f.0; free = f.1; has_too = u.2 }

  turned : (k j : ℕ) → AreAcross m ts k j → AreAcross m ts j k
  turned k j h = record { t = h.u; u = h.t; e = reverse_of h.e; at = h.at_too; at_too = h.at; has = h.has_too; free = λ line. h.free (line_turned m h.e line); has_too = h.has }

  link_of_across : (k j : ℕ) → AreAcross m ts k j → IsLink ts ws k j
  link_of_across k j h = record {
    t = h.t;
    w = walls_at ws k;
    e = h.e;
    at = h.at;
    marks = slice_get-get_or ws k any_walls (let lt = slice_get_within ts k h.t h.at in let e = d.walls.one_each in omega (arith, lt, e));
    free = good.free_edge m ts ws k h.t h.e d.walls h.at h.has h.free;
    behind = only_one m ts d.plain (reverse_of h.e) j h.u h.at_too h.has_too;
  }

  way_of_row : (k : ℕ) (is : List ℕ) (j : ℕ) → IsRowOfLinks ts ws k is j → IsWay m ts k is j
  way_of_row k [] j e = e
  way_of_row k (i ∷ is) j (inl link, row) = (across_of_link k i link, way_of_row i is j row)
  way_of_row k (i ∷ is) j (inr link, row) = (turned i k (across_of_link i k link), way_of_row i is j row)

  row_of_way : (k : ℕ) (is : List ℕ) (j : ℕ) → IsWay m ts k is j → IsRowOfLinks ts ws k is j
  row_of_way k [] j e = e
  row_of_way k (i ∷ is) j (h, way) = (inl (link_of_across k i h), row_of_way i is j way)

  pub face_is : (k j : ℕ) → k < length ts → j < length ts → (class_of fs k ≡ class_of fs j) ↔ AreOnOneFace m ts k j
  face_is k j hk hj = let o = one_face m ts ws fs d k j hk hj in (λ e. let r = o.0 e in (r.0, way_of_row k r.0 j r.1), λ w. o.1 (w.0, row_of_way k w.0 j w.1))

  pub named_is : (k a : ℕ) → k < length ts → HasNamedSide m ts fs k a ↔ IsNamedAt m ts k a
  named_is k a hk = (
    λ h. record { side = h.side; line = h.line; is = h.is; names = h.names; j = h.j; at = h.at; face = (face_is k h.j hk (triangle_within ts (side_edge m h.line h.side.left) h.j h.at)).0 h.face },
    λ h. record { side = h.side; line = h.line; is = h.is; names = h.names; j = h.j; at = h.at; face = (face_is k h.j hk (triangle_within ts (side_edge m h.line h.side.left) h.j h.at)).1 h.face },
  )

  pub names_are : (k : ℕ) (names : List ℕ) → k < length ts → AreNamedOn m ts fs k names ↔ AreNamedAt m ts k names
  names_are k names hk = (
    λ n. record { ascend = n.ascend; exactly = λ a. let x = n.exactly a in let y = named_is k a hk in (λ c. y.0 (x.0 c), λ h. x.1 (y.1 h)) },
    λ n. record { ascend = n.ascend; exactly = λ a. let x = n.exactly a in let y = named_is k a hk in (λ c. y.1 (x.0 c), λ h. x.1 (y.0 h)) },
  )

  -- the sectors at a side are those that the sides of its triangle's face name
  pub sectors_at_are_named : NamedAreSealed m ts ws fs → (s : Side) (l : MapLine) (k : ℕ) (names : List ℕ) → line_at m s.line ≡ Some l → triangle_at ts (side_edge m l s.left) ≡ Some k → AreSectorsAt m s names ↔ AreNamedAt m ts k names
  sectors_at_are_named sealed s l k names is at =
      let x = named_are_sectors m ts ws fs d sealed s l k names is at in
      let y = names_are k names (triangle_within ts (side_edge m l s.left) k at) in
      (λ h. y.0 (x.1 h), λ h. x.0 (y.1 h))
