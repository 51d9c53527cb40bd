-- The faces of which some side names a sector, and the groups that their lists are.
use Rattle.std.specs.Prelude.{◌≡◌, ◌≢◌, ℕ, ◌-◌, ◌<◌, ◌≤◌, ◌⊎◌, List, [], ◌∷◌, ◌++◌, Option, Some, None, Contains, length, slice_get, slice_index_or, MatchOption}
use Rattle.sight_names.specs.Mesh.{label_of}
use Rattle.sight_names.specs.Groups.{ListBefore}
use Rattle.face_groups.specs.GroupsBase.Table.{AscendAsLists}
use Rattle.face_groups.specs.TriSectors.Classes.{class_of}
use Rattle.face_groups.specs.declared.namings.Naming.{Naming}
use Rattle.face_groups.specs.declared.named_faces.NamedFace.{NamedFace}
use Rattle.face_groups.specs.Namings.{AreSectorsOn}

-- the face was added at the end, if its list isn't empty
abbrev pub IsFaceAdded : NamedFace → List NamedFace → List NamedFace → Type 0
IsFaceAdded f old new = ((f.sectors.items ≡ []) × (new ≡ old)) ⊎ ((f.sectors.items ≢ []) × (new ≡ old ++ f ∷ []))

-- one of the first n faces, with its list, which isn't empty
pub record IsNamedFace (ns : List Naming) (n : ℕ) (f : NamedFace) : Type 0 where
  pub below : f.face < n
  pub sectors : AreSectorsOn ns f.face f.sectors.items
  pub some : f.sectors.items ≢ []

-- all those of the first n faces whose list isn't empty
pub record AreNamedFaces (ns : List Naming) (n : ℕ) (named : List NamedFace) : Type 0 where
  pub each : (f : NamedFace) → Contains named f → IsNamedFace ns n f
  pub all : (face : ℕ) (sectors : List ℕ) → face < n → AreSectorsOn ns face sectors → sectors ≢ [] → (f : NamedFace) × Contains named f × (f.face ≡ face)

-- no list comes before that of an earlier face
abbrev pub RiseAsLists : List NamedFace → Type 0
RiseAsLists named = (i j : ℕ) (f g : NamedFace) → i < j → slice_get named i ≡ Some f → slice_get named j ≡ Some g → ¬ ListBefore g.sectors.items f.sectors.items

abbrev pub AreFacesBelow : ℕ → List NamedFace → Type 0
AreFacesBelow n named = (f : NamedFace) → Contains named f → f.face < n

-- ---- groups

abbrev pub IsLast : List (List ℕ) → List ℕ → Type 0
IsLast groups sectors = slice_get groups (length groups - 1) ≡ Some sectors

-- the list was put behind the groups, unless it is the last of them already
abbrev pub IsPutBehind : List ℕ → List (List ℕ) → List (List ℕ) → Type 0
IsPutBehind sectors old new = (IsLast old sectors × (new ≡ old)) ⊎ (¬ IsLast old sectors × (new ≡ old ++ sectors ∷ []))

-- the face has this place, and its list stands there
pub record IsPlaceOfFace (named : List NamedFace) (groups : List (List ℕ)) (face place : ℕ) : Type 0 where
  pub f : NamedFace
  pub one : Contains named f
  pub is : f.face ≡ face
  pub there : slice_get groups place ≡ Some f.sectors.items

-- the lists of the faces in order, each once, and for each face the place of its list
pub record AreNumbered (named : List NamedFace) (groups : List (List ℕ)) (places : List (Option ℕ)) : Type 0 where
  pub ascend : AscendAsLists groups
  pub few : length groups ≤ length named
  pub each : (p : ℕ) (sectors : List ℕ) → slice_get groups p ≡ Some sectors → (f : NamedFace) × Contains named f × (f.sectors.items ≡ sectors)
  pub given : (face p : ℕ) → slice_index_or places face None ≡ Some p → IsPlaceOfFace named groups face p
  pub all : (f : NamedFace) → Contains named f → (p : ℕ) × (slice_index_or places f.face None ≡ Some p)

-- the groups are the lists of the faces in order, each once, without the empty one; the label of each triangle is the
-- place of its face's list, or none where that is empty
pub record AreListLabels (ns : List Naming) (fs : List ℕ) (groups : List (List ℕ)) (ls : List (Option ℕ)) : Type 0 where
  pub one_each : length ls ≡ length fs
  pub each : (k : ℕ) (sectors : List ℕ) → k < length fs → AreSectorsOn ns (class_of fs k) sectors → MatchOption (label_of ls k) (sectors ≡ []) (λ p. slice_get groups p ≡ Some sectors)
  pub range : (k p : ℕ) → label_of ls k ≡ Some p → p < length groups
  pub ascend : AscendAsLists groups
  pub few : length groups ≤ length fs
  pub used : (p : ℕ) (sectors : List ℕ) → slice_get groups p ≡ Some sectors → (sectors ≢ []) × ((k : ℕ) × (k < length fs) × (label_of ls k ≡ Some p))
