-- What the table of groups has for each triangle, and which of its groups are used.
use Rattle.std.specs.Prelude.{◌≡◌, ℕ, ◌<◌, List, Option, Some, None, length, slice_get}
use Rattle.sight_names.specs.declared.names.Triangle.{Triangle}
use Rattle.sight_names.specs.Map.{Map}
use Rattle.sight_names.specs.Mesh.{label_of}
use Rattle.mesh_shape.specs.Faults.{IsFirstAgainst}
use Rattle.face_groups.specs.GroupsBase.Named.{AreNamedAt}
use Rattle.group_checker.specs.declared.verdict.AnyFault.{AnyFault}
use Rattle.group_checker.specs.declared.verdict.AnyFault.TheVariants.{Check, Group, Unused}

-- what the table has at the triangle's label is the list of its face
abbrev pub IsListRight : Map → List Triangle → List (List ℕ) → List (Option ℕ) → ℕ → Type 0
IsListRight m ts groups ls k = (f : ℕ) (at : List ℕ) → label_of ls k ≡ Some f → slice_get groups f ≡ Some at → AreNamedAt m ts k at

-- the group is the label of a triangle
abbrev pub IsUsedGroup : ℕ → List (Option ℕ) → ℕ → Type 0
IsUsedGroup count ls f = f < count → (k : ℕ) × (k < length ls) × (label_of ls k ≡ Some f)

-- each triangle has a label, one of so many groups
pub record AreGroupLabels (count : ℕ) (ts : List Triangle) (ls : List (Option ℕ)) : Type 0 where
  pub one_each : length ls ≡ length ts
  pub each : (k : ℕ) → k < length ts → (f : ℕ) × (label_of ls k ≡ Some f)
  pub below : (k f : ℕ) → label_of ls k ≡ Some f → f < count

-- the least triangle whose group isn't the list of its face; then the least group that no triangle has
abbrev pub IsFirstListFault : Map → List Triangle → List (List ℕ) → List (Option ℕ) → Option AnyFault → Type 0
IsFirstListFault m ts groups ls None = ((k : ℕ) → IsListRight m ts groups ls k) × ((f : ℕ) → IsUsedGroup (length groups) ls f)
IsFirstListFault m ts groups ls (Some (Group k)) = IsFirstAgainst (IsListRight m ts groups ls) k
IsFirstListFault m ts groups ls (Some (Unused f)) = ((k : ℕ) → IsListRight m ts groups ls k) × IsFirstAgainst (IsUsedGroup (length groups) ls) f
IsFirstListFault m ts groups ls (Some (Check f)) = ⊥

-- ---- where the lists of the faces are known

-- the group with this label, if there is one, is the list
abbrev pub IsGroupOf : List (List ℕ) → Option ℕ → List ℕ → Type 0
IsGroupOf groups None names = Unit {0}
IsGroupOf groups (Some f) names = slice_get groups f ≡ Some names

-- the group that is the triangle's label is the list that it has here
abbrev pub HasItsList : List (List ℕ) → List (Option ℕ) → List (List ℕ) → ℕ → Type 0
HasItsList groups ls lists k = (names : List ℕ) → slice_get lists k ≡ Some names → IsGroupOf groups (label_of ls k) names

-- one of the first n labels is this group
abbrev pub IsUsedBelow : ℕ → List (Option ℕ) → ℕ → Type 0
IsUsedBelow n ls f = (k : ℕ) × (k < n) × (label_of ls k ≡ Some f)
