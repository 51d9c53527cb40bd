-- The map of groups of a map with closed faces.
use Rattle.std.specs.Prelude.{◌≡◌, ◌≤◌, length}
use Rattle.sight_names.specs.Groups.{AreGroups, HasClosedFaces, IsGroupedMap}
use Rattle.sight_names.specs.Limits.{most_triangles}
use Rattle.sight_names.specs.Map.{map_of}
use Rattle.sight_names.specs.Plan.{IsPlan, PlanParts}
use Rattle.group_job.specs.Faces.{AreFacesOf}
use Rattle.group_job.specs.declared.grouped.MapOfGroups.{MapOfGroups}

-- the map has closed faces; these are its groups, and this is its map of groups with its faces, over the same points
pub record IsMapOfGroups (p : PlanParts) (g : MapOfGroups) : Type 0 where
  pub plan : IsPlan p
  pub closed : HasClosedFaces (map_of p)
  pub groups : AreGroups (map_of p) g.groups
  pub map : IsGroupedMap (map_of p) g.groups (map_of g.plan)
  pub few : length g.groups ≤ most_triangles (length p.points)
  pub points : g.plan.points ≡ p.points
  pub faces : AreFacesOf g.plan g.faces
