-- What is answered: the list of each triangle's face; the groups of the map, or its least side against a closed map.
use Rattle.std.specs.Prelude.{◌≡◌, ℕ, List, Some, Bool, Result, Ok, Err, length, slice_get}
use Rattle.sight_names.specs.declared.names.Side.{Side}
use Rattle.sight_names.specs.declared.names.Triangle.{Triangle}
use Rattle.sight_names.specs.Plan.{PlanParts}
use Rattle.sight_names.specs.Map.{Map, map_of}
use Rattle.mesh_shape.specs.Faults.{IsFirstSideAgainst}
use Rattle.face_groups.specs.TriSectors.Sides.{IsSealedAt}
use Rattle.face_groups.specs.TriSectors.Verdict.{IsClosedSide}
use Rattle.face_groups.specs.GroupsBase.Found.{AreFoundGroups}
use Rattle.face_groups.specs.GroupsBase.Named.{AreNamedAt}
use Rattle.face_groups.specs.declared.namings.Naming.{Naming}
use Rattle.face_groups.specs.declared.fault.GroupFault.{GroupFault}
use Rattle.face_groups.specs.declared.fault.GroupFault.TheVariants.{Open, Memory}
use Rattle.face_groups.specs.declared.grouping.Grouped.{Grouped}
use Rattle.face_groups.specs.Namings.{AreNamings}
use Rattle.face_groups.specs.NamedFaces.{AreListLabels}
use Rattle.face_groups.specs.Regrouped.{regrouped_plan}

-- each triangle has the ascending list of the sectors that sides name on its face
abbrev pub AreFaceNames : Map → List Triangle → List (List ℕ) → Type 0
AreFaceNames m ts lists = (k : ℕ) (names : List ℕ) → slice_get lists k ≡ Some names → AreNamedAt m ts k names

-- the groups of the map, its map of groups and the labels of that; or the least side that names a sector and is touched by
-- a point from which a path leads out of the hull
abbrev pub IsGroupsVerdict : Map → List Triangle → Result Grouped GroupFault → Type 0
IsGroupsVerdict m ts (Ok g) = AreFoundGroups m ts g.groups (map_of g.plan) g.labels
IsGroupsVerdict m ts (Err (Open s)) = IsFirstSideAgainst (IsClosedSide m) s
IsGroupsVerdict m ts (Err (Memory _)) = Unit {0}

-- ---- where the faces are known

-- no side is open; the groups and labels are those of the lists, and the plan names the labels
pub record AreGroupsOf (p : PlanParts) (ts : List Triangle) (fs : List ℕ) (os : List Bool) (g : Grouped) : Type 0 where
  pub sealed : (s : Side) → IsSealedAt (map_of p) ts fs os s
  pub namings : List Naming
  pub are_namings : AreNamings (map_of p) ts fs namings
  pub labels : AreListLabels namings fs g.groups g.labels
  pub plan : g.plan ≡ regrouped_plan ts g.labels (length g.groups) p

abbrev pub IsGroupedVerdict : PlanParts → List Triangle → List ℕ → List Bool → Result Grouped GroupFault → Type 0
IsGroupedVerdict p ts fs os (Ok g) = AreGroupsOf p ts fs os g
IsGroupedVerdict p ts fs os (Err (Open s)) = IsFirstSideAgainst (IsSealedAt (map_of p) ts fs os) s
IsGroupedVerdict p ts fs os (Err (Memory _)) = Unit {0}
