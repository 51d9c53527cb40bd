-- The first rule of a good mesh that is broken, at its least numbers.
use Rattle.std.specs.Prelude.{◌≡◌, ℕ, ◌<◌, ◌⊎◌, List, Option, Some, None, length, slice_get, false, true}
use Rattle.sight_names.specs.declared.names.Side.{Side}
use Rattle.sight_names.specs.declared.names.Triangle.{Triangle}
use Rattle.sight_names.specs.declared.faults.MeshFault.{MeshFault}
use Rattle.sight_names.specs.declared.faults.MeshFault.TheVariants.{Flat, Twice, NoMate, NoTriangle, Meets, Inside}
use Rattle.sight_names.specs.Point.{point_of}
use Rattle.sight_names.specs.Map.{Map, MapLine, line_at, named, Names}
use Rattle.sight_names.specs.Points.{Edge, points_of, place, reverse_of}
use Rattle.sight_names.specs.Mesh.{HasEdge, IsCounterclockwise, InsideTriangle, IsLineEdge, MeetsFairly, IsGoodMesh, label_of, side_edge, triangle_at}

-- ---- what each rule says of one triangle, side, line or point

-- the triangle at this place has a positive turn
abbrev pub TurnsAt : Map → List Triangle → ℕ → Type 0
TurnsAt m ts k = (t : Triangle) → slice_get ts k ≡ Some t → IsCounterclockwise m t

-- it has no directed edge of an earlier one
abbrev pub IsNewAt : List Triangle → ℕ → Type 0
IsNewAt ts k = (j : ℕ) → j < k → (t u : Triangle) (e : Edge) → slice_get ts j ≡ Some t → slice_get ts k ≡ Some u → HasEdge t e → ¬ HasEdge u e

-- the edge's reverse is in a triangle with this label
abbrev pub HasMate : List Triangle → List (Option ℕ) → Edge → ℕ → Type 0
HasMate ts ls e a = (j : ℕ) × (triangle_at ts (reverse_of e) ≡ Some j) × (label_of ls j ≡ Some a)

-- if it has a label, each of its edges that is no line has its reverse in a triangle of the same label
abbrev pub HasMatesAt : Map → List Triangle → List (Option ℕ) → ℕ → Type 0
HasMatesAt m ts ls k = (a : ℕ) (t : Triangle) (e : Edge) → slice_get ts k ≡ Some t → label_of ls k ≡ Some a → HasEdge t e → ¬ IsLineEdge m e → HasMate ts ls e a

-- a side that names a sector has its triangle, with that label; the triangle of a side that names none has no label
pub record FitsAt (m : Map) (ts : List Triangle) (ls : List (Option ℕ)) (s : Side) : Type 0 where
  pub sector : (l : MapLine) (a : ℕ) → line_at m s.line ≡ Some l → Names m s a
      → (k : ℕ) × (triangle_at ts (side_edge m l s.left) ≡ Some k) × (label_of ls k ≡ Some a)
  pub none : (l : MapLine) (k : ℕ) → line_at m s.line ≡ Some l → named m s ≡ None → triangle_at ts (side_edge m l s.left) ≡ Some k → label_of ls k ≡ None

-- no edge of the triangle meets the line, but at ends of both or as the same segment
abbrev pub IsFairAt : Map → List Triangle → ℕ → ℕ → Type 0
IsFairAt m ts k i = (t : Triangle) (e : Edge) (l : MapLine) → slice_get ts k ≡ Some t → HasEdge t e → line_at m i ≡ Some l → MeetsFairly m e l

-- the point isn't strictly inside the triangle
abbrev pub IsEmptyAt : Map → List Triangle → ℕ → ℕ → Type 0
IsEmptyAt m ts k p = (t : Triangle) → slice_get ts k ≡ Some t → p < length (points_of m) → ¬ InsideTriangle m t (point_of (place m p))

-- ---- the first break

-- k is the least number against P
pub record IsFirstAgainst (P : ℕ → Type 0) (k : ℕ) : Type 0 where
  pub against : ¬ P k
  pub before : (j : ℕ) → j < k → P j

-- by line record, the right side first
abbrev pub IsSideBefore : Side → Side → Type 0
IsSideBefore s t = (s.line < t.line) ⊎ ((s.line ≡ t.line) × (s.left ≡ false) × (t.left ≡ true))

pub record IsFirstSideAgainst (P : Side → Type 0) (s : Side) : Type 0 where
  pub against : ¬ P s
  pub before : (t : Side) → IsSideBefore t s → P t

-- (k, i) is the least pair against P, by the first number and then by the second
pub record IsFirstPairAgainst (P : ℕ → ℕ → Type 0) (k i : ℕ) : Type 0 where
  pub against : ¬ P k i
  pub before : (j : ℕ) → j < k → (h : ℕ) → P j h
  pub before_here : (h : ℕ) → h < i → P k h

-- this is the first rule that is broken, at its least numbers
abbrev pub IsFirstFault : Map → List Triangle → List (Option ℕ) → MeshFault → Type 0
IsFirstFault m ts ls (Flat k) = IsFirstAgainst (TurnsAt m ts) k
IsFirstFault m ts ls (Twice k) = ((j : ℕ) → TurnsAt m ts j) × IsFirstAgainst (IsNewAt ts) k
IsFirstFault m ts ls (NoMate k) = ((j : ℕ) → TurnsAt m ts j) × ((j : ℕ) → IsNewAt ts j) × IsFirstAgainst (HasMatesAt m ts ls) k
IsFirstFault m ts ls (NoTriangle s) = ((j : ℕ) → TurnsAt m ts j) × ((j : ℕ) → IsNewAt ts j) × ((j : ℕ) → HasMatesAt m ts ls j) × IsFirstSideAgainst (FitsAt m ts ls) s
IsFirstFault m ts ls (Meets k i) = ((j : ℕ) → TurnsAt m ts j) × ((j : ℕ) → IsNewAt ts j) × ((j : ℕ) → HasMatesAt m ts ls j) × ((s : Side) → FitsAt m ts ls s) × IsFirstPairAgainst (IsFairAt m ts) k i
IsFirstFault m ts ls (Inside k p) = ((j : ℕ) → TurnsAt m ts j) × ((j : ℕ) → IsNewAt ts j) × ((j : ℕ) → HasMatesAt m ts ls j) × ((s : Side) → FitsAt m ts ls s) × ((j i : ℕ) → IsFairAt m ts j i) × IsFirstPairAgainst (IsEmptyAt m ts) k p

-- none exactly where the mesh is good
abbrev pub IsMeshVerdict : Map → List Triangle → List (Option ℕ) → Option MeshFault → Type 0
IsMeshVerdict m ts ls None = IsGoodMesh m ts ls
IsMeshVerdict m ts ls (Some f) = IsFirstFault m ts ls f
