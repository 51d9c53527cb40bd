-- What the audit of a map says whose faces may have several names: of its lines, and then whether its faces are closed.
use Rattle.std.specs.Prelude.{◌≡◌, ℕ, List, Option, Result, Err, length, ⊤}
use Rattle.sight_names.specs.declared.names.Triangle.{Triangle}
use Rattle.sight_names.specs.Map.{Map, map_of}
use Rattle.sight_names.specs.Groups.{AreGroups, HasClosedFaces, IsGroupedMap}
use Rattle.sight_names.specs.Mesh.{AreLabelsOf, IsGoodMesh, IsMeshOf}
use Rattle.sight_names.specs.Plan.{IsPlan, PlanParts}
use Rattle.sight_names.specs.Sound.{IsSound}
use Rattle.map_answers.specs.declared.sight_status.status.Flaw.TheVariants as flaw
use Rattle.map_answers.specs.declared.sight_status.status.Status.{Status}
use Rattle.map_answers.specs.declared.sight_status.status.Status.TheVariants as status
use Rattle.map_answers.specs.SightStatus.Answer.{Answer}
use Rattle.map_answers.specs.declared.groups.MeshGroups.{MeshGroups}
use Rattle.map_answers.specs.Sound.{HasOpenSide, OnSoundLines}

-- the groups of a map in order, its map of groups, and the triangles of its mesh, with groups for labels
pub record MapGroups : Type 0 where
  pub groups : List (List ℕ)
  pub grouped : Map
  pub triangles : List Triangle
  pub labels : List (Option ℕ)

-- the map has closed faces, and these are its groups, its map of groups, and its mesh with the labels of that map
pub record IsMapWithGroups (m : Map) (g : MapGroups) : Type 0 where
  pub faces : HasClosedFaces m
  pub are : AreGroups m g.groups
  pub is : IsGroupedMap m g.groups g.grouped
  pub mesh : IsMeshOf m g.triangles
  pub labelled : AreLabelsOf g.grouped g.triangles g.labels

pub record HasGroupsCalled (m : Map) (Called : MapGroups → Result Answer Status → Type 0) (answer : Result Answer Status) : Type 0 where
  pub groups : MapGroups
  pub over : IsMapWithGroups m groups
  pub called : Called groups answer

-- The least side that isn't closed refuses the map. In every other map the answer is the one that its groups call for.
abbrev pub OnClosed : Map → (MapGroups → Result Answer Status → Type 0) → Result Answer Status → Type 0
OnClosed m Called (Err (status.BadMap (flaw.Open side))) = HasOpenSide m side
OnClosed m Called answer = HasGroupsCalled m Called answer

-- the whole audit: lines, then faces
abbrev pub OnAudited : Map → (MapGroups → Result Answer Status → Type 0) → Result Answer Status → Type 0
OnAudited m Called answer = OnSoundLines m (OnClosed m Called) answer

-- ---- parts of the audit

-- what the test of the faces can end with
abbrev pub IsClosedRefusal : Map → Status → Type 0
IsClosedRefusal m (status.BadMap (flaw.Open side)) = HasOpenSide m side
IsClosedRefusal m (status.Memory _) = ⊤
IsClosedRefusal m other = ⊥

-- what was made, as plain data
abbrev pub seen : MeshGroups → MapGroups
seen g = record { groups = g.grouped.groups; grouped = map_of g.grouped.plan; triangles = g.mesh.triangles; labels = g.grouped.labels }

-- the groups of the plan's map over its mesh; the map of groups is sound, and the mesh is a good one of it
pub record AreGroupsOverPlan (p : PlanParts) (g : MeshGroups) : Type 0 where
  pub plan : IsPlan p
  pub over : IsMapWithGroups (map_of p) (seen g)
  pub sound : IsSound (map_of g.grouped.plan)
  pub mesh : IsMeshOf (map_of g.grouped.plan) g.mesh.triangles
  pub good : IsGoodMesh (map_of g.grouped.plan) g.mesh.triangles g.grouped.labels
  pub points : g.mesh.points ≡ length g.grouped.plan.points
