-- Laws of groups of sectors, on every map with closed faces and over its mesh.
use Rattle.std.specs.Prelude.{◌≡◌, ℕ, ◌<◌, ◌≤◌, ◌↔◌, List, Option, Some, Bool, IsTrue, length}
use Rattle.sight_names.specs.declared.names.Side.{Side}
use Rattle.sight_names.specs.declared.names.Triangle.{Triangle}
use Rattle.sight_names.specs.declared.names.Budget.{Budget}
use Rattle.sight_names.specs.Plan.{PlanParts, IsPlan}
use Rattle.sight_names.specs.Point.{Point}
use Rattle.sight_names.specs.Map.{Map, MapLine, IsMap, line_at, map_of}
use Rattle.sight_names.specs.Path.{InSector}
use Rattle.sight_names.specs.Sees.{Sees}
use Rattle.sight_names.specs.Sound.{LinesMeetAtEnds, IsClosed, IsSound}
use Rattle.sight_names.specs.Mesh.{IsMeshOf, AreLabelsOf, IsGoodMesh, side_edge, triangle_at}
use Rattle.sight_names.specs.Found.{Found, IsListedOver}
use Rattle.sight_names.specs.Groups.{HasClosedFaces, AreSectorsAt, AreGroups, IsGroupedMap, IsInGroup, IsListedByGroups}
use Rattle.face_groups.specs.GroupsBase.Named.{AreNamedAt}
use Rattle.face_groups.specs.GroupsBase.Table.{IsTableFor, NamesTheLabels}

-- the map of a plan has closed faces, and these are the triangles of its mesh
pub record IsClosedMesh (p : PlanParts) (ts : List Triangle) : Type 0 where
  pub plan : IsPlan p
  pub faces : HasClosedFaces (map_of p)
  pub mesh : IsMeshOf (map_of p) ts

-- its groups and its map of groups
pub record AreItsGroups (m : Map) (groups : List (List ℕ)) (g : Map) : Type 0 where
  pub are : AreGroups m groups
  pub is : IsGroupedMap m groups g

abbrev pub SidesHaveSectors : Type 0
SidesHaveSectors = (p : PlanParts) (ts : List Triangle) → IsClosedMesh p ts → (s : Side) (l : MapLine) → line_at (map_of p) s.line ≡ Some l → (at : List ℕ) × AreSectorsAt (map_of p) s at

abbrev pub SectorsAreNamed : Type 0
SectorsAreNamed = (p : PlanParts) (ts : List Triangle) → IsClosedMesh p ts → (s : Side) (l : MapLine) (k : ℕ) (names : List ℕ) → line_at (map_of p) s.line ≡ Some l → triangle_at ts (side_edge (map_of p) l s.left) ≡ Some k
    → AreSectorsAt (map_of p) s names ↔ AreNamedAt (map_of p) ts k names

pub record HasGroupsByMesh (m : Map) (ts : List Triangle) : Type 0 where
  pub groups : List (List ℕ)
  pub g : Map
  pub its : AreItsGroups m groups g
  pub labels : List (Option ℕ)
  pub labelled : AreLabelsOf g ts labels
  pub good : IsGoodMesh g ts labels

abbrev pub GroupsExist : Type 0
GroupsExist = (p : PlanParts) (ts : List Triangle) → IsClosedMesh p ts → HasGroupsByMesh (map_of p) ts

pub record IsSoundMap (g : Map) (ts : List Triangle) : Type 0 where
  pub is_map : IsMap g
  pub sound : IsSound g
  pub mesh : IsMeshOf g ts

abbrev pub GroupsAreSound : Type 0
GroupsAreSound = (p : PlanParts) (ts : List Triangle) → IsClosedMesh p ts → (groups : List (List ℕ)) (g : Map) → AreItsGroups (map_of p) groups g → IsSoundMap g ts

abbrev pub PointsAreInGroups : Type 0
PointsAreInGroups = (p : PlanParts) (ts : List Triangle) → IsClosedMesh p ts → (groups : List (List ℕ)) (g : Map) → AreItsGroups (map_of p) groups g
    → (q : Point) (a : ℕ) → InSector (map_of p) q a ↔ ((k : ℕ) × IsInGroup groups a k × InSector g q k)

abbrev pub SightByGroups : Type 0
SightByGroups = (p : PlanParts) (ts : List Triangle) → IsClosedMesh p ts → (groups : List (List ℕ)) (g : Map) → AreItsGroups (map_of p) groups g
    → (a b : ℕ) → Sees (map_of p) a b ↔ ((k n : ℕ) × IsInGroup groups a k × IsInGroup groups b n × Sees g k n)

-- the bits of groups are right
abbrev pub AreGroupBits : Map → List (List ℕ) → List Triangle → List (Option ℕ) → Budget → (ℕ → ℕ → Bool) → Type 0
AreGroupBits g groups ts ls budget bit = (f k : ℕ) → f < length groups → k < length groups → IsTrue (bit f k) ↔ (¬ Sees g f k × ¬ IsListedOver g ts ls budget f k)

abbrev pub FoundAreSeen : Map → List Triangle → List (Option ℕ) → Budget → Type 0
FoundAreSeen g ts ls budget = (f k : ℕ) → Found g ts ls f k budget → Sees g f k

abbrev pub BitsByGroups : Type 0
BitsByGroups = (p : PlanParts) (ts : List Triangle) → IsClosedMesh p ts → (groups : List (List ℕ)) (g : Map) → AreItsGroups (map_of p) groups g → (ls : List (Option ℕ)) → AreLabelsOf g ts ls → (budget : Budget) → FoundAreSeen g ts ls budget
    → (bit : ℕ → ℕ → Bool) → AreGroupBits g groups ts ls budget bit
    → (a b : ℕ) → ((f k : ℕ) → IsInGroup groups a f → IsInGroup groups b k → IsTrue (bit f k)) ↔ (¬ Sees (map_of p) a b × ¬ IsListedByGroups (map_of p) budget a b)

-- ---- certificates: any triangles and labels that keep the rules of a table, for the map of a plan

-- what they show of the map, of its groups and of the map whose sides name the labels
pub record IsShownByTable (m : Map) (ts : List Triangle) (groups : List (List ℕ)) (ls : List (Option ℕ)) (g : Map) : Type 0 where
  pub closed : IsClosed m
  pub its : AreItsGroups m groups g
  pub is_map : LinesMeetAtEnds m → IsMap g
  pub sound : LinesMeetAtEnds m → IsSound g
  pub good : IsGoodMesh g ts ls
  pub sees : (a b : ℕ) → Sees m a b ↔ ((k n : ℕ) × IsInGroup groups a k × IsInGroup groups b n × Sees g k n)
  -- sectors that share a group see each other
  pub one_group : (k a b : ℕ) → IsInGroup groups a k → IsInGroup groups b k → Sees m a b
  pub few : length groups ≤ length ts

abbrev pub TablesShowGroups : Type 0
TablesShowGroups = (p : PlanParts) (ts : List Triangle) (groups : List (List ℕ)) (ls : List (Option ℕ)) (g : Map) → IsPlan p → IsTableFor (map_of p) ts groups ls → NamesTheLabels (map_of p) ts groups ls g → IsShownByTable (map_of p) ts groups ls g
