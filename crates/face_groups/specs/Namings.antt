-- What the sides of lines say of faces: the sectors that they name there.
use Rattle.std.specs.Prelude.{◌≡◌, ℕ, ◌<◌, ◌≤◌, ◌⊎◌, ◌↔◌, List, Option, Some, Contains, length, slice_get, option_map}
use Rattle.sight_names.specs.declared.names.Side.{Side}
use Rattle.sight_names.specs.declared.names.Triangle.{Triangle}
use Rattle.sight_names.specs.Map.{Map, MapLine, line_at, Names}
use Rattle.sight_names.specs.Mesh.{side_edge, triangle_at}
use Rattle.sight_names.specs.Order.{Ascends}
use Rattle.sight_names.specs.Groups.{AscendStrictly}
use Rattle.face_groups.specs.declared.tri_sectors.sides.FacedSide.{FacedSide}
use Rattle.face_groups.specs.TriSectors.Classes.{class_of}
use Rattle.face_groups.specs.declared.namings.Naming.{Naming}

-- by the face, then by the sector
abbrev pub NamingBefore : Naming → Naming → Type 0
NamingBefore n o = (n.face < o.face) ⊎ ((n.face ≡ o.face) × (n.sector < o.sector))

abbrev pub naming : ℕ → ℕ → Naming
naming face sector = record { face = face; sector = sector }

-- what a side says of its face, if it names a sector
abbrev pub said_by : FacedSide → Option Naming
said_by s = option_map (λ a. naming s.face a) s.sector

-- the same namings, each once, in order
pub record AreNamingsInOrder (all left : List Naming) : Type 0 where
  pub ascend : Ascends NamingBefore left
  pub exactly : (n : Naming) → Contains left n ↔ Contains all n

-- a side whose triangle is on the face names the sector
pub record IsNamedThere (m : Map) (ts : List Triangle) (fs : List ℕ) (face sector : ℕ) : Type 0 where
  pub side : Side
  pub line : MapLine
  pub is : line_at m side.line ≡ Some line
  pub names : Names m side sector
  pub j : ℕ
  pub at : triangle_at ts (side_edge m line side.left) ≡ Some j
  pub there : face ≡ class_of fs j

-- what all sides say of the faces, in order, each once
pub record AreNamings (m : Map) (ts : List Triangle) (fs : List ℕ) (ns : List Naming) : Type 0 where
  pub ascend : Ascends NamingBefore ns
  pub exactly : (face sector : ℕ) → Contains ns (naming face sector) ↔ IsNamedThere m ts fs face sector

-- the place of the first naming of the face or of a later one
pub record IsNamingStart (ns : List Naming) (face i : ℕ) : Type 0 where
  pub within : i ≤ length ns
  pub before : (k : ℕ) (n : Naming) → k < i → slice_get ns k ≡ Some n → n.face < face
  pub from : (k : ℕ) (n : Naming) → i ≤ k → slice_get ns k ≡ Some n → face ≤ n.face

-- the namings of one face, in order
pub record IsRunOf (ns : List Naming) (face : ℕ) (run : List Naming) : Type 0 where
  pub ascend : Ascends NamingBefore run
  pub exactly : (n : Naming) → Contains run n ↔ (Contains ns n × (n.face ≡ face))

-- the ascending list of the sectors that are named on the face
pub record AreSectorsOn (ns : List Naming) (face : ℕ) (sectors : List ℕ) : Type 0 where
  pub ascend : AscendStrictly sectors
  pub exactly : (a : ℕ) → Contains sectors a ↔ Contains ns (naming face a)

-- the list of each triangle's face
pub record AreListsOn (ns : List Naming) (fs : List ℕ) (lists : List (List ℕ)) : Type 0 where
  pub one_each : length lists ≡ length fs
  pub each : (k : ℕ) (sectors : List ℕ) → slice_get lists k ≡ Some sectors → AreSectorsOn ns (class_of fs k) sectors

-- a face of which something is said is told by its own number
pub record IsFaceNumber (fs : List ℕ) (face : ℕ) : Type 0 where
  pub within : face < length fs
  pub own : class_of fs face ≡ face

abbrev pub AreOnFaces : List ℕ → List Naming → Type 0
AreOnFaces fs ns = (face sector : ℕ) → Contains ns (naming face sector) → IsFaceNumber fs face
