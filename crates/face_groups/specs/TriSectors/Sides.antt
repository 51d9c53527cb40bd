-- The sides of lines on faces: which are open, which have triangles, and the names of faces.
use Rattle.std.specs.Prelude.{◌≡◌, ◌≢◌, ℕ, ◌<◌, List, [], ◌∷◌, ◌++◌, Option, Some, None, length, slice_get, slice_index_or, Bool, true, false, MatchOption}
use Rattle.sight_names.specs.declared.names.Side.{Side}
use Rattle.sight_names.specs.declared.names.Triangle.{Triangle}
use Rattle.sight_names.specs.declared.plan.Line.{Line}
use Rattle.sight_names.specs.Map.{Map, MapLine, line_at, named, Names}
use Rattle.sight_names.specs.Points.{Edge}
use Rattle.sight_names.specs.Mesh.{side_edge, triangle_at}
use Rattle.mesh_shape.specs.Faults.{IsSideBefore}
use Rattle.face_groups.specs.declared.tri_sectors.sides.FacedSide.{FacedSide}
use Rattle.face_groups.specs.TriSectors.Classes.{class_of}

-- ---- open sides

-- the edge has a triangle, on a face that isn't open
abbrev pub IsSealedEdge : List Triangle → List ℕ → List Bool → Edge → Type 0
IsSealedEdge ts fs os e = (k : ℕ) × (triangle_at ts e ≡ Some k) × (slice_index_or os (class_of fs k) false ≡ false)

-- so it is, if the side names a sector
abbrev pub IsSealedSide : List Triangle → List ℕ → List Bool → Edge → Option ℕ → Type 0
IsSealedSide ts fs os e None = Unit {0}
IsSealedSide ts fs os e (Some a) = IsSealedEdge ts fs os e

-- the same of a side of the map
abbrev pub IsSealedAt : Map → List Triangle → List ℕ → List Bool → Side → Type 0
IsSealedAt m ts fs os s = (l : MapLine) (a : ℕ) → line_at m s.line ≡ Some l → Names m s a → IsSealedEdge ts fs os (side_edge m l s.left)

-- the first side of the record against P
abbrev pub IsFirstOfLine : (Side → Type 0) → ℕ → Option Bool → Type 0
IsFirstOfLine P i None = (left : Bool) → P (record { line = i; left = left })
IsFirstOfLine P i (Some left) = ¬ P (record { line = i; left = left }) × (left ≡ true → P (record { line = i; left = false }))

-- the first side of the line that is open: right sides go from the second end to the first
abbrev pub IsOpenLine : List Triangle → List ℕ → List Bool → Line → Option Bool → Type 0
IsOpenLine ts fs os l None = IsSealedSide ts fs os (record { from = l.b; to = l.a }) l.right × IsSealedSide ts fs os (record { from = l.a; to = l.b }) l.left
IsOpenLine ts fs os l (Some true) = ¬ IsSealedSide ts fs os (record { from = l.a; to = l.b }) l.left × IsSealedSide ts fs os (record { from = l.b; to = l.a }) l.right
IsOpenLine ts fs os l (Some false) = ¬ IsSealedSide ts fs os (record { from = l.b; to = l.a }) l.right

-- ---- sides that have triangles

-- what is noted of a side that has a triangle
pub record IsFaced (m : Map) (ts : List Triangle) (fs : List ℕ) (s : FacedSide) : Type 0 where
  pub line : MapLine
  pub is : line_at m s.side.line ≡ Some line
  pub k : ℕ
  pub at : triangle_at ts (side_edge m line s.side.left) ≡ Some k
  pub face : s.face ≡ class_of fs k
  pub sector : s.sector ≡ named m s.side

-- these are the sides of which D holds and that have triangles, in order
pub record AreFacedOf (D : Side → Type 0) (m : Map) (ts : List Triangle) (fs : List ℕ) (ss : List FacedSide) : Type 0 where
  pub each : (i : ℕ) (s : FacedSide) → slice_get ss i ≡ Some s → IsFaced m ts fs s × D s.side
  pub all : (s : Side) (l : MapLine) (k : ℕ) → D s → line_at m s.line ≡ Some l → triangle_at ts (side_edge m l s.left) ≡ Some k → (i : ℕ) × (f : FacedSide) × (slice_get ss i ≡ Some f) × (f.side ≡ s)
  pub ascend : (i j : ℕ) (s t : FacedSide) → i < j → slice_get ss i ≡ Some s → slice_get ss j ≡ Some t → IsSideBefore s.side t.side

-- all sides that have triangles
abbrev pub AreFaced : Map → List Triangle → List ℕ → List FacedSide → Type 0
AreFaced m ts fs ss = AreFacedOf (λ s. Unit {0}) m ts fs ss

-- one side is added behind the others, if it has a triangle
abbrev pub IsSideAdded : List Triangle → List ℕ → Edge → Side → Option ℕ → List FacedSide → List FacedSide → Type 0
IsSideAdded ts fs e s name old new = MatchOption (triangle_at ts e) (new ≡ old) (λ k. new ≡ old ++ record { side = s; face = class_of fs k; sector = name } ∷ [])

-- both sides of the line are added, the right one first
pub record AreSidesAdded (ts : List Triangle) (fs : List ℕ) (i : ℕ) (l : Line) (old new : List FacedSide) : Type 0 where
  pub middle : List FacedSide
  pub right : IsSideAdded ts fs (record { from = l.b; to = l.a }) (record { line = i; left = false }) l.right old middle
  pub left : IsSideAdded ts fs (record { from = l.a; to = l.b }) (record { line = i; left = true }) l.left middle new

-- ---- sides on one face

-- they are on one face and don't name the same
abbrev pub AreMixed : FacedSide → FacedSide → Type 0
AreMixed s t = (t.face ≡ s.face) × (t.sector ≢ s.sector)

-- if they are on one face, they name the same
abbrev pub AreAlike : List FacedSide → ℕ → ℕ → Type 0
AreAlike ss i j = (s t : FacedSide) → slice_get ss i ≡ Some s → slice_get ss j ≡ Some t → t.face ≡ s.face → t.sector ≡ s.sector

-- the first side from n on that isn't alike
abbrev pub IsOtherFrom : List FacedSide → ℕ → FacedSide → Option ℕ → Type 0
IsOtherFrom ss n s None = (j : ℕ) (t : FacedSide) → n < j → slice_get ss j ≡ Some t → t.face ≡ s.face → t.sector ≡ s.sector
IsOtherFrom ss n s (Some j) = (n < j) × ((t : FacedSide) × (slice_get ss j ≡ Some t) × AreMixed s t)
    × ((i : ℕ) (t : FacedSide) → n < i → i < j → slice_get ss i ≡ Some t → t.face ≡ s.face → t.sector ≡ s.sector)

-- the places of the least pair that isn't alike
pub record IsFirstMixed (ss : List FacedSide) (i j : ℕ) : Type 0 where
  pub first : FacedSide
  pub second : FacedSide
  pub order : i < j
  pub at : slice_get ss i ≡ Some first
  pub at_too : slice_get ss j ≡ Some second
  pub mixed : AreMixed first second
  pub before : (g h : ℕ) → g < i → g < h → AreAlike ss g h
  pub before_here : (h : ℕ) → i < h → h < j → AreAlike ss i h

abbrev pub IsMixedSearch : List FacedSide → Option (ℕ × ℕ) → Type 0
IsMixedSearch ss None = (i j : ℕ) → i < j → AreAlike ss i j
IsMixedSearch ss (Some p) = IsFirstMixed ss p.0 p.1

-- the first named side of each face gives the face its name
pub record AreNames (ss : List FacedSide) (ns : List (Option ℕ)) : Type 0 where
  pub given : (f a : ℕ) → slice_index_or ns f None ≡ Some a → (i : ℕ) × (s : FacedSide) × (slice_get ss i ≡ Some s) × (s.face ≡ f) × (s.sector ≡ Some a)
  pub none : (i : ℕ) (s : FacedSide) → slice_get ss i ≡ Some s → slice_index_or ns s.face None ≡ None → s.sector ≡ None

-- each triangle has the name of its face
pub record AreLabelled (fs : List ℕ) (ns ls : List (Option ℕ)) : Type 0 where
  pub one_each : length ls ≡ length fs
  pub each : (k : ℕ) → k < length fs → slice_get ls k ≡ Some (slice_index_or ns (class_of fs k) None)

abbrev pub IsFacedBelow : ℕ → FacedSide → Type 0
IsFacedBelow n s = s.face < n
