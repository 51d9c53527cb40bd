-- What is known of the groups of a map once they are built from its mesh: the faces marked, no side open, a list of groups and their labels.
use Rattle.std.proofs.Common.{◌≡◌, ℕ, List, slice_get, Option, Some, Bool, Err}
use Rattle.std.proofs.lemmas.Option.{slice_get_within, MatchOption-at_some}
use Rattle.sight_names.specs.declared.names.Side.{Side}
use Rattle.sight_names.specs.declared.names.Triangle.{Triangle}
use Rattle.sight_names.specs.declared.faults.LabelFault.TheVariants.{Open}
use Rattle.sight_names.specs.Map.{Map}
use Rattle.sight_names.specs.Mesh.{IsPlainMesh}
use Rattle.mesh_base.proofs.GoodMesh.{PointFacts}
use Rattle.mesh_shape.specs.Faults.{IsFirstSideAgainst}
use Rattle.mesh_shape.specs.Fills.{FillsSides}
use Rattle.face_groups.specs.TriSectors.Faces.{AreMarkedFaces}
use Rattle.face_groups.specs.TriSectors.Sides.{IsSealedAt}
use Rattle.face_groups.specs.TriSectors.Verdict.{IsClosedSide}
use Rattle.face_groups.proofs.TriSectors.FaceRegion.{Ground}
use Rattle.face_groups.proofs.TriSectors.LabelVerdict.{verdict}
use Rattle.face_groups.specs.GroupsBase.Found.{AreFoundGroups}
use Rattle.face_groups.specs.GroupsBase.Table.{AreUsed, AscendAsLists, NamesTheLabels}
use Rattle.face_groups.proofs.GroupsBase.SamePoints.{mesh_alike}
use Rattle.face_groups.proofs.GroupsBase.FaceSectors.{sealed_where_marked, closed_where_sealed}
use Rattle.face_groups.proofs.GroupsBase.GroupLaws.{sees_by_groups, grouped_sound}
use Rattle.face_groups.proofs.GroupsBase.NamedLists.{lists_exist, names_on}
use Rattle.face_groups.proofs.GroupsBase.GroupLabels.{AreGroupLabels, good_for_groups, labels_of_groups}
use Rattle.face_groups.proofs.GroupsBase.GroupTable.{table_is_groups, labelled_is_grouped}
use Rattle.face_groups.proofs.GroupsBase.GroupedMap.{grouped_is_map}

module _ (m : Map) (ts : List Triangle) (fs : List ℕ) (os : List Bool) (facts : PointFacts m) (plain : IsPlainMesh m ts) (filled : FillsSides m ts) (marked : AreMarkedFaces m ts fs os) where
  ground : Ground m ts marked.walls fs
  ground = record { facts = facts; plain = plain; walls = marked.are_walls; faces = marked.are_faces }

  -- the answer of an open side
  pub open_verdict : (s : Side) → IsFirstSideAgainst (IsSealedAt m ts fs os) s → IsFirstSideAgainst (IsClosedSide m) s
  open_verdict s h = verdict m ts fs os facts plain filled marked (Err (Open s)) h

  -- the answer with groups
  pub groups_verdict : ((s : Side) → IsSealedAt m ts fs os s) → (groups : List (List ℕ)) (ls : List (Option ℕ)) → AreGroupLabels m ts fs groups ls → AscendAsLists groups → AreUsed ts groups ls
      → (g : Map) → NamesTheLabels m ts groups ls g → AreFoundGroups m ts groups g ls
  groups_verdict each groups ls labels up used g names =
      let sealed = sealed_where_marked m ts fs os marked each in
      let lists = lists_exist m ts marked.walls fs ground sealed in
      let are = table_is_groups m ts marked.walls fs ground sealed groups ls labels up used in
      let is = labelled_is_grouped m ts marked.walls fs ground sealed groups ls labels g names.sectors names.lines names.names in record {
        closed = closed_where_sealed m ts marked.walls fs ground sealed;
        groups_are = are;
        grouped = is;
        labels = labels_of_groups m ts marked.walls fs ground sealed groups are g is lists ls labels filled;
        good = good_for_groups m ts marked.walls fs ground sealed groups are g is lists ls labels;
        range = λ k f lt label. let n = names_on m ts fs k in slice_get_within groups f n.0 (MatchOption-at_some _ (λ x. slice_get groups x ≡ Some n.0) f label (labels.each k n.0 lt n.1));
        sees = sees_by_groups m ts marked.walls fs ground sealed groups are g is lists;
        sound = grouped_sound m ts marked.walls fs ground sealed groups are g is lists;
        is_map = grouped_is_map m ts marked.walls fs ground sealed groups are g is lists;
        mesh = mesh_alike m g is.lines ts;
      }
