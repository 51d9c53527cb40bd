-- What a certificate with a table of groups shows, by its triangles and labels alone: the table is the map's, the mesh is good for the map of groups.
use Rattle.std.proofs.Common.{◌≡◌, ℕ, ◌<◌, sym, ap, ◌∙◌, subst, ◌↔◌, List, [], length, slice_get, Option, Some, MatchOption}
use Rattle.sight_names.specs.declared.names.Triangle.{Triangle}
use Rattle.sight_names.specs.Map.{Map, IsMap}
use Rattle.sight_names.specs.Sees.{Sees}
use Rattle.sight_names.specs.Sound.{LinesMeetAtEnds, IsClosed, IsSound}
use Rattle.sight_names.specs.Mesh.{IsGoodMesh, label_of, side_edge}
use Rattle.sight_names.specs.Groups.{AreGroups, IsGroupedMap, IsInGroup}
use Rattle.sight_names.proofs.Portals.{triangle_within}
use Rattle.mesh_base.proofs.GoodMesh.{PointFacts}
use Rattle.face_groups.specs.declared.tri_sectors.faces.Walls.{Walls}
use Rattle.face_groups.proofs.TriSectors.FaceRegion.{Ground}
use Rattle.face_groups.specs.GroupsBase.Table.{IsTableFor, NamesTheLabels, NamedAreLabelled}
use Rattle.face_groups.proofs.GroupsBase.FaceSectors.{NamedAreSealed, AreNamedOn, closed_where_sealed}
use Rattle.face_groups.proofs.GroupsBase.GroupLaws.{HasLists, sees_by_groups, grouped_sound}
use Rattle.face_groups.proofs.GroupsBase.Listing.{one_group_sees}
use Rattle.face_groups.proofs.GroupsBase.NamedLists.{lists_exist}
use Rattle.face_groups.proofs.GroupsBase.GroupLabels.{AreGroupLabels, one_list, good_for_groups}
use Rattle.face_groups.proofs.GroupsBase.GroupTable.{sealed_by_mates, table_is_groups, labelled_is_grouped}
use Rattle.face_groups.proofs.GroupsBase.GroupedMap.{grouped_is_map}
use Rattle.face_groups.proofs.GroupsBase.FacesExist.{ground_exists}
use Rattle.face_groups.proofs.GroupsBase.Named.{names_are}

module _ (m : Map) (facts : PointFacts m) (ts : List Triangle) (groups : List (List ℕ)) (ls : List (Option ℕ)) (table : IsTableFor m ts groups ls) where
  record Base : Type 0 where
    ws : List Walls
    fs : List ℕ
    ground : Ground m ts ws fs
    sealed : NamedAreSealed m ts ws fs
    lists : HasLists m
    labels : AreGroupLabels m ts fs groups ls

  base : Base
  base =
      let g = ground_exists m ts facts table.plain in
      let sides : NamedAreLabelled m ts ls = λ s l a is names. let r = table.sides s l a is names in (r.0, r.1, let x = table.each r.0 (triangle_within ts (side_edge m l s.left) r.0 r.1) in (x.f, x.label)) in
      let sealed = sealed_by_mates m ts g.0 g.1 g.2 ls table.mates sides in
      record { ws = g.0; fs = g.1; ground = g.2; sealed = sealed; lists = lists_exist m ts g.0 g.1 g.2 sealed; labels = record { one_each = table.one_each; each = λ k names lt n. each g.0 g.1 g.2 k names lt n } }
    where
      each : (ws : List Walls) (fs : List ℕ) (d : Ground m ts ws fs) (k : ℕ) (names : List ℕ) → k < length ts → AreNamedOn m ts fs k names → MatchOption (label_of ls k) (names ≡ []) (λ f. slice_get groups f ≡ Some names)
      each ws fs d k names lt n =
          let x = table.each k lt in
          let same : x.at ≡ names = one_list m ts fs k x.at names ((names_are m ts ws fs d k x.at lt).1 x.named) n in
          subst (λ (o : Option ℕ). MatchOption o (names ≡ []) (λ f. slice_get groups f ≡ Some names)) (sym x.label) (x.there ∙ ap (λ (xs : List ℕ). Some xs) same)

  pub table_closes : IsClosed m
  table_closes = closed_where_sealed m ts base.ws base.fs base.ground base.sealed

  pub table_has_groups : AreGroups m groups
  table_has_groups = table_is_groups m ts base.ws base.fs base.ground base.sealed groups ls base.labels table.ascend table.used

  module _ (g : Map) (names : NamesTheLabels m ts groups ls g) where
    pub table_has_grouped : IsGroupedMap m groups g
    table_has_grouped = labelled_is_grouped m ts base.ws base.fs base.ground base.sealed groups ls base.labels g names.sectors names.lines names.names

    pub table_is_good : IsGoodMesh g ts ls
    table_is_good = good_for_groups m ts base.ws base.fs base.ground base.sealed groups table_has_groups g table_has_grouped base.lists ls base.labels

    pub table_is_sound : LinesMeetAtEnds m → IsSound g
    table_is_sound = grouped_sound m ts base.ws base.fs base.ground base.sealed groups table_has_groups g table_has_grouped base.lists

    pub table_is_map : IsMap m → LinesMeetAtEnds m → IsMap g
    table_is_map = grouped_is_map m ts base.ws base.fs base.ground base.sealed groups table_has_groups g table_has_grouped base.lists

    pub table_sees : (a b : ℕ) → Sees m a b ↔ ((k n : ℕ) × IsInGroup groups a k × IsInGroup groups b n × Sees g k n)
    table_sees = sees_by_groups m ts base.ws base.fs base.ground base.sealed groups table_has_groups g table_has_grouped base.lists

    pub table_one_group : (k a b : ℕ) → IsInGroup groups a k → IsInGroup groups b k → Sees m a b
    table_one_group = one_group_sees m ts base.ws base.fs base.ground base.sealed groups table_has_groups g table_has_grouped base.lists
