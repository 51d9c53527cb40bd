-- What the groups of a map are known to be once they are made: the definitions of them, and what these give.
use Rattle.std.specs.Prelude.{◌≡◌, ℕ, ◌<◌, ◌↔◌, List, length, Option, Some}
use Rattle.sight_names.specs.declared.names.Triangle.{Triangle}
use Rattle.sight_names.specs.Map.{Map, IsMap}
use Rattle.sight_names.specs.Sees.{Sees}
use Rattle.sight_names.specs.Sound.{LinesMeetAtEnds, IsClosed, IsSound}
use Rattle.sight_names.specs.Mesh.{IsMeshOf, IsGoodMesh, AreLabelsOf, label_of}
use Rattle.sight_names.specs.Groups.{AreGroups, IsGroupedMap, IsInGroup}

-- the map is closed; these are its groups, its map of groups, and the labels of that
pub record AreFoundGroups (m : Map) (ts : List Triangle) (groups : List (List ℕ)) (g : Map) (ls : List (Option ℕ)) : Type 0 where
  pub closed : IsClosed m
  pub groups_are : AreGroups m groups
  pub grouped : IsGroupedMap m groups g
  pub labels : AreLabelsOf g ts ls
  pub good : IsGoodMesh g ts ls
  pub range : (k f : ℕ) → k < length ts → label_of ls k ≡ Some f → f < length groups
  -- two sectors see each other exactly where some groups that contain them do
  pub sees : (a b : ℕ) → Sees m a b ↔ ((k n : ℕ) × IsInGroup groups a k × IsInGroup groups b n × Sees g k n)
  -- where lines meet at ends the map of groups is a sound map, with the same mesh
  pub sound : LinesMeetAtEnds m → IsSound g
  pub is_map : IsMap m → LinesMeetAtEnds m → IsMap g
  pub mesh : IsMeshOf m ts → IsMeshOf g ts
