-- The laws of groups in the words of the map alone, over its mesh: what a call without a body can promise.
use Rattle.std.proofs.Common.{◌≡◌, ℕ, ◌<◌, ◌↔◌, List, length, Option, Some}
use Rattle.sight_names.specs.declared.names.Side.{Side}
use Rattle.sight_names.specs.declared.names.Triangle.{Triangle}
use Rattle.sight_names.specs.declared.names.Budget.{Budget}
use Rattle.sight_names.specs.Plan.{PlanParts, IsPlan}
use Rattle.sight_names.specs.Point.{Point}
use Rattle.sight_names.specs.Map.{Map, MapLine, IsMap, line_at, map_of}
use Rattle.sight_names.specs.Path.{InSector}
use Rattle.sight_names.specs.Sees.{Sees}
use Rattle.sight_names.specs.Sound.{IsSound}
use Rattle.sight_names.specs.Mesh.{IsMeshOf, AreLabelsOf, IsGoodMesh, side_edge, triangle_at}
use Rattle.sight_names.specs.Found.{Found, IsListedOver}
use Rattle.sight_names.specs.Groups.{HasClosedFaces, AreSectorsAt, AreGroups, IsGroupedMap, IsInGroup, IsListedByGroups}
use Rattle.sight_names.proofs.PlanMap.{plan_is_map}
use Rattle.mesh_base.proofs.PlanFacts.{plan_facts}
use Rattle.triangulate.proofs.MeshLaws.{mesh_plain, mesh_fills_sides}
use Rattle.face_groups.specs.declared.tri_sectors.faces.Walls.{Walls}
use Rattle.face_groups.proofs.TriSectors.FaceRegion.{Ground}
use Rattle.face_groups.proofs.GroupsBase.SamePoints.{mesh_alike}
use Rattle.face_groups.proofs.GroupsBase.FaceSectors.{NamedAreSealed, sealed_where_closed}
use Rattle.face_groups.proofs.GroupsBase.GroupLaws.{HasLists, sees_by_groups, grouped_sound, in_its_sectors, in_some_group}
use Rattle.face_groups.proofs.GroupsBase.NamedLists.{lists_exist}
use Rattle.face_groups.proofs.GroupsBase.GroupedMap.{grouped_is_map}
use Rattle.face_groups.proofs.GroupsBase.GroupLabels.{good_for_groups, labels_of_groups}
use Rattle.face_groups.proofs.GroupsBase.GroupTable.{table_is_groups, labelled_is_grouped}
use Rattle.face_groups.proofs.GroupsBase.GroupsExist.{groups_exist}
use Rattle.face_groups.proofs.GroupsBase.FacesExist.{ground_exists}
use Rattle.face_groups.proofs.GroupsBase.Named.{sectors_at_are_named}
use Rattle.face_groups.specs.GroupsBase.Named.{AreNamedAt}
use Rattle.face_groups.proofs.GroupsBase.OneGrouped.{set_exactly}

module _ (p : PlanParts) (plan : IsPlan p) (faces : HasClosedFaces (map_of p)) (ts : List Triangle) (mesh : IsMeshOf (map_of p) ts) where
  record Base : Type 0 where
    ws : List Walls
    fs : List ℕ
    ground : Ground (map_of p) ts ws fs
    sealed : NamedAreSealed (map_of p) ts ws fs
    lists : HasLists (map_of p)

  base : Base
  base =
      let facts = plan_facts p plan in
      let g = ground_exists (map_of p) ts facts (mesh_plain (map_of p) facts faces.ends ts mesh) in
      let sealed = sealed_where_closed (map_of p) ts g.0 g.1 g.2 (mesh_fills_sides (map_of p) facts faces.ends ts mesh) faces.closed in
      record { ws = g.0; fs = g.1; ground = g.2; sealed = sealed; lists = lists_exist (map_of p) ts g.0 g.1 g.2 sealed }

  -- each side of a line has its list of sectors
  pub each_has_list : (s : Side) (l : MapLine) → line_at (map_of p) s.line ≡ Some l → (at : List ℕ) × AreSectorsAt (map_of p) s at
  each_has_list = base.lists

  -- it is the list of the sectors that are named by sides whose triangles are linked with the side's triangle
  pub list_is_named : (s : Side) (l : MapLine) (k : ℕ) (names : List ℕ) → line_at (map_of p) s.line ≡ Some l → triangle_at ts (side_edge (map_of p) l s.left) ≡ Some k → AreSectorsAt (map_of p) s names ↔ AreNamedAt (map_of p) ts k names
  list_is_named = sectors_at_are_named (map_of p) ts base.ws base.fs base.ground base.sealed

  -- the map has its groups, its map of groups and the labels of that, with which the mesh is good
  pub record HasGroupedMesh : Type 0 where
    pub groups : List (List ℕ)
    pub are : AreGroups (map_of p) groups
    pub g : Map
    pub is : IsGroupedMap (map_of p) groups g
    pub ls : List (Option ℕ)
    pub labels : AreLabelsOf g ts ls
    pub good : IsGoodMesh g ts ls

  pub has_grouped_mesh : HasGroupedMesh
  has_grouped_mesh =
      let b = base in
      let h = groups_exist (map_of p) ts b.fs in
      let are = table_is_groups (map_of p) ts b.ws b.fs b.ground b.sealed h.groups h.ls h.labels h.ascend h.used in
      let is = labelled_is_grouped (map_of p) ts b.ws b.fs b.ground b.sealed h.groups h.ls h.labels h.g h.names.sectors h.names.lines h.names.names in record {
        groups = h.groups;
        are = are;
        g = h.g;
        is = is;
        ls = h.ls;
        labels = labels_of_groups (map_of p) ts b.ws b.fs b.ground b.sealed h.groups are h.g is b.lists h.ls h.labels (mesh_fills_sides (map_of p) (plan_facts p plan) faces.ends ts mesh);
        good = good_for_groups (map_of p) ts b.ws b.fs b.ground b.sealed h.groups are h.g is b.lists h.ls h.labels;
      }

  module _ (groups : List (List ℕ)) (are : AreGroups (map_of p) groups) (g : Map) (is : IsGroupedMap (map_of p) groups g) where
    -- the map of groups is a map, and sound
    pub groups_are_map : IsMap g
    groups_are_map = grouped_is_map (map_of p) ts base.ws base.fs base.ground base.sealed groups are g is base.lists (plan_is_map p plan) faces.ends

    pub groups_are_sound : IsSound g
    groups_are_sound = grouped_sound (map_of p) ts base.ws base.fs base.ground base.sealed groups are g is base.lists faces.ends

    -- with the same mesh
    pub groups_have_mesh : IsMeshOf g ts
    groups_have_mesh = mesh_alike (map_of p) g is.lines ts mesh

    -- a point is in a sector exactly where it is in a group that contains it
    pub in_sector_by_groups : (q : Point) (a : ℕ) → InSector (map_of p) q a ↔ ((k : ℕ) × IsInGroup groups a k × InSector g q k)
    in_sector_by_groups q a = (
      in_some_group (map_of p) ts base.ws base.fs base.ground base.sealed groups are g is base.lists q a,
      λ h. in_its_sectors (map_of p) ts base.ws base.fs base.ground base.sealed groups are g is base.lists q h.0 a h.2 h.1,
    )

    -- sectors see each other exactly where groups that contain them do
    pub sectors_see_by_groups : (a b : ℕ) → Sees (map_of p) a b ↔ ((k n : ℕ) × IsInGroup groups a k × IsInGroup groups b n × Sees g k n)
    sectors_see_by_groups = sees_by_groups (map_of p) ts base.ws base.fs base.ground base.sealed groups are g is base.lists

    -- where the bits of groups are right, so are those of sectors: a bit of sectors is set where the bits of all groups that contain them are
    pub bits_by_groups : (ls : List (Option ℕ)) → AreLabelsOf g ts ls → (budget : Budget) → ((f k : ℕ) → Found g ts ls f k budget → Sees g f k)
        → (Set : ℕ → ℕ → Type 0) → ((f k : ℕ) → f < length groups → k < length groups → Set f k ↔ (¬ Sees g f k × ¬ IsListedOver g ts ls budget f k))
        → (a b : ℕ) → ((f k : ℕ) → IsInGroup groups a f → IsInGroup groups b k → Set f k) ↔ (¬ Sees (map_of p) a b × ¬ IsListedByGroups (map_of p) budget a b)
    bits_by_groups ls labelled = set_exactly (map_of p) ts base.ws base.fs base.ground base.sealed groups are g is base.lists ls groups_have_mesh labelled
