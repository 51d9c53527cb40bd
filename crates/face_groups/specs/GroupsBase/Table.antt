-- A table of groups with labels of triangles, as a certificate has it, and the map whose sides name the labels.
use Rattle.std.specs.Prelude.{◌≡◌, ◌≢◌, ℕ, ◌<◌, List, [], Option, Some, length, map, slice_get, option_and_then}
use Rattle.sight_names.specs.declared.names.Side.{Side}
use Rattle.sight_names.specs.declared.names.Triangle.{Triangle}
use Rattle.sight_names.specs.Map.{Map, MapLine, line_at, named, Names}
use Rattle.sight_names.specs.Mesh.{HasMates, IsPlainMesh, label_of, side_edge, triangle_at}
use Rattle.sight_names.specs.Groups.{ListBefore, unnamed}
use Rattle.face_groups.specs.GroupsBase.Named.{AreNamedAt}

-- no group is empty, and each is the label of a triangle
abbrev pub AreUsed : List Triangle → List (List ℕ) → List (Option ℕ) → Type 0
AreUsed ts groups ls = (f : ℕ) (at : List ℕ) → slice_get groups f ≡ Some at → (at ≢ []) × ((k : ℕ) × (k < length ts) × (label_of ls k ≡ Some f))

abbrev pub AscendAsLists : List (List ℕ) → Type 0
AscendAsLists groups = (i j : ℕ) (f g : List ℕ) → i < j → slice_get groups i ≡ Some f → slice_get groups j ≡ Some g → ListBefore f g

-- each side that names a sector has its triangle, and that has a label
abbrev pub NamedAreLabelled : Map → List Triangle → List (Option ℕ) → Type 0
NamedAreLabelled m ts ls = (s : Side) (l : MapLine) (a : ℕ) → line_at m s.line ≡ Some l → Names m s a → (k : ℕ) × (triangle_at ts (side_edge m l s.left) ≡ Some k) × ((f : ℕ) × (label_of ls k ≡ Some f))

-- each side names the label of its triangle, or none where it has none
abbrev pub NamesLabels : Map → List Triangle → List (Option ℕ) → Map → Type 0
NamesLabels m ts ls g = (s : Side) (l : MapLine) → line_at m s.line ≡ Some l → named g s ≡ option_and_then (label_of ls) (triangle_at ts (side_edge m l s.left))

-- what the table has at the label of a triangle is the list of its face
pub record IsNamedByTable (m : Map) (ts : List Triangle) (groups : List (List ℕ)) (ls : List (Option ℕ)) (k : ℕ) : Type 0 where
  pub f : ℕ
  pub at : List ℕ
  pub label : label_of ls k ≡ Some f
  pub there : slice_get groups f ≡ Some at
  pub named : AreNamedAt m ts k at

-- the rules of a certificate with groups, without its rays, trees and pairs
pub record IsTableFor (m : Map) (ts : List Triangle) (groups : List (List ℕ)) (ls : List (Option ℕ)) : Type 0 where
  pub plain : IsPlainMesh m ts
  pub one_each : length ls ≡ length ts
  pub mates : HasMates m ts ls
  pub sides : (s : Side) (l : MapLine) (a : ℕ) → line_at m s.line ≡ Some l → Names m s a → (k : ℕ) × (triangle_at ts (side_edge m l s.left) ≡ Some k)
  pub each : (k : ℕ) → k < length ts → IsNamedByTable m ts groups ls k
  pub ascend : AscendAsLists groups
  pub used : AreUsed ts groups ls

-- the same lines; the groups are the sectors, and each side names the label of its triangle
pub record NamesTheLabels (m : Map) (ts : List Triangle) (groups : List (List ℕ)) (ls : List (Option ℕ)) (g : Map) : Type 0 where
  pub sectors : g.sectors ≡ length groups
  pub lines : map unnamed g.lines ≡ map unnamed m.lines
  pub names : NamesLabels m ts ls g
