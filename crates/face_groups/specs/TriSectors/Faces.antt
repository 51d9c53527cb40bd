-- Which edges of triangles are lines, and the faces: triangles that are linked across the other edges.
use Rattle.std.specs.Prelude.{◌≡◌, ℕ, ◌<◌, ◌⊎◌, ◌↔◌, List, [], ◌∷◌, Some, None, length, slice_get, slice_index_or, Bool, true, false, IsTrue, IsFalse, MatchOption}
use Rattle.sight_names.specs.declared.names.Triangle.{Triangle}
use Rattle.sight_names.specs.Map.{Map}
use Rattle.sight_names.specs.Points.{Edge, reverse_of}
use Rattle.sight_names.specs.Mesh.{IsLineEdge, triangle_at}
use Rattle.mesh_shape.specs.Search.{IsEdgeOf}
use Rattle.face_groups.specs.declared.tri_sectors.faces.Walls.{Walls}
use Rattle.face_groups.specs.TriSectors.Classes.{AreLeast, AreMerged, class_of}

abbrev pub edge_pq : Triangle → Edge
edge_pq t = record { from = t.p; to = t.q }

abbrev pub edge_qr : Triangle → Edge
edge_qr t = record { from = t.q; to = t.r }

abbrev pub edge_rp : Triangle → Edge
edge_rp t = record { from = t.r; to = t.p }

-- ---- walls

-- those edges of the triangle are marked of which W holds
pub record HasMarks (W : Edge → Type 0) (t : Triangle) (w : Walls) : Type 0 where
  pub pq : IsTrue w.pq ↔ W (edge_pq t)
  pub qr : IsTrue w.qr ↔ W (edge_qr t)
  pub rp : IsTrue w.rp ↔ W (edge_rp t)

pub record AreWallsMarked (W : ℕ → Edge → Type 0) (ts : List Triangle) (ws : List Walls) : Type 0 where
  pub one_each : length ws ≡ length ts
  pub each : (k : ℕ) (t : Triangle) (d : Walls) → slice_get ts k ≡ Some t → HasMarks (W k) t (slice_index_or ws k d)

-- the edge is a line, and the triangle at k is the first that has it
abbrev pub IsWallAt : Map → List Triangle → ℕ → Edge → Type 0
IsWallAt m ts k e = IsLineEdge m e × (triangle_at ts e ≡ Some k)

abbrev pub AreWalls : Map → List Triangle → List Walls → Type 0
AreWalls m ts ws = AreWallsMarked (IsWallAt m ts) ts ws

-- the same of the first n lines
abbrev pub IsWallBefore : Map → List Triangle → ℕ → ℕ → Edge → Type 0
IsWallBefore m ts n k e = ((i : ℕ) × (i < n) × IsEdgeOf m e i) × (triangle_at ts e ≡ Some k)

-- the edge from u on is marked too
pub record IsMarkedMore (t : Triangle) (u : ℕ) (old new : Walls) : Type 0 where
  pub pq : IsTrue new.pq ↔ (IsTrue old.pq ⊎ (t.p ≡ u))
  pub qr : IsTrue new.qr ↔ (IsTrue old.qr ⊎ (t.q ≡ u))
  pub rp : IsTrue new.rp ↔ (IsTrue old.rp ⊎ (t.r ≡ u))

-- the edge is marked too in the first triangle that has it
abbrev pub IsPutHere : List Triangle → Edge → ℕ → Bool → Edge → Type 0
IsPutHere ts e k old f = IsTrue old ⊎ ((f ≡ e) × (triangle_at ts e ≡ Some k))

pub record IsPutAt (ts : List Triangle) (e : Edge) (k : ℕ) (t : Triangle) (old new : Walls) : Type 0 where
  pub pq : IsTrue new.pq ↔ IsPutHere ts e k old.pq (edge_pq t)
  pub qr : IsTrue new.qr ↔ IsPutHere ts e k old.qr (edge_qr t)
  pub rp : IsTrue new.rp ↔ IsPutHere ts e k old.rp (edge_rp t)

pub record IsWallPut (ts : List Triangle) (e : Edge) (old new : List Walls) : Type 0 where
  pub len : length new ≡ length old
  pub each : (k : ℕ) (t : Triangle) (d : Walls) → slice_get ts k ≡ Some t → IsPutAt ts e k t (slice_index_or old k d) (slice_index_or new k d)

-- ---- links and gaps

-- an edge of the triangle that isn't marked
abbrev pub IsFreeEdge : Triangle → Walls → Edge → Type 0
IsFreeEdge t w e = ((e ≡ edge_pq t) × IsFalse w.pq) ⊎ ((e ≡ edge_qr t) × IsFalse w.qr) ⊎ ((e ≡ edge_rp t) × IsFalse w.rp)

-- j is the triangle behind an edge of k that isn't marked
pub record IsLink (ts : List Triangle) (ws : List Walls) (k j : ℕ) : Type 0 where
  pub t : Triangle
  pub w : Walls
  pub e : Edge
  pub at : slice_get ts k ≡ Some t
  pub marks : slice_get ws k ≡ Some w
  pub free : IsFreeEdge t w e
  pub behind : triangle_at ts (reverse_of e) ≡ Some j

-- no triangle is behind an edge that isn't marked
abbrev pub HasGapHere : List Triangle → Walls → Triangle → Type 0
HasGapHere ts w t = (IsFalse w.pq × (triangle_at ts (reverse_of (edge_pq t)) ≡ None))
    ⊎ (IsFalse w.qr × (triangle_at ts (reverse_of (edge_qr t)) ≡ None))
    ⊎ (IsFalse w.rp × (triangle_at ts (reverse_of (edge_rp t)) ≡ None))

-- the same of the triangle at k
pub record HasGap (ts : List Triangle) (ws : List Walls) (k : ℕ) : Type 0 where
  pub t : Triangle
  pub w : Walls
  pub e : Edge
  pub at : slice_get ts k ≡ Some t
  pub marks : slice_get ws k ≡ Some w
  pub free : IsFreeEdge t w e
  pub behind : triangle_at ts (reverse_of e) ≡ None

-- links lead from k to j, each in the one direction or the other
abbrev pub IsRowOfLinks : List Triangle → List Walls → ℕ → List ℕ → ℕ → Type 0
IsRowOfLinks ts ws k [] j = k ≡ j
IsRowOfLinks ts ws k (i ∷ is) j = (IsLink ts ws k i ⊎ IsLink ts ws i k) × IsRowOfLinks ts ws i is j

abbrev pub AreLinked : List Triangle → List Walls → ℕ → ℕ → Type 0
AreLinked ts ws k j = (is : List ℕ) × IsRowOfLinks ts ws k is j

-- the faces, each named by its least triangle
pub record AreFaces (ts : List Triangle) (ws : List Walls) (fs : List ℕ) : Type 0 where
  pub one_each : length fs ≡ length ts
  pub named : AreLeast fs
  pub linked : (k j : ℕ) → IsLink ts ws k j → class_of fs k ≡ class_of fs j
  pub only : (k j : ℕ) → k < length ts → j < length ts → class_of fs k ≡ class_of fs j → AreLinked ts ws k j

-- the triangle at k and the one behind its edge are put together, if the edge isn't marked
abbrev pub JoinsAcross : List Triangle → Bool → ℕ → Edge → List ℕ → List ℕ → Type 0
JoinsAcross ts true k e old new = new ≡ old
JoinsAcross ts false k e old new = MatchOption (triangle_at ts (reverse_of e)) (new ≡ old) (λ j. AreMerged k j old new)

-- the same of its three edges
pub record AreCrossed (ts : List Triangle) (w : Walls) (k : ℕ) (t : Triangle) (old new : List ℕ) : Type 0 where
  pub after_pq : List ℕ
  pub after_qr : List ℕ
  pub pq : JoinsAcross ts w.pq k (edge_pq t) old after_pq
  pub qr : JoinsAcross ts w.qr k (edge_qr t) after_pq after_qr
  pub rp : JoinsAcross ts w.rp k (edge_rp t) after_qr new

-- the face is open: one of its triangles has a gap
pub record AreOpen (ts : List Triangle) (ws : List Walls) (fs : List ℕ) (os : List Bool) : Type 0 where
  pub one_each : length os ≡ length ts
  pub gap : (k : ℕ) → k < length ts → HasGap ts ws k → slice_index_or os (class_of fs k) false ≡ true
  pub only : (f : ℕ) → slice_index_or os f false ≡ true → (k : ℕ) × (k < length ts) × (class_of fs k ≡ f) × HasGap ts ws k

-- the faces of a mesh of the map, with the open ones marked
pub record AreMarkedFaces (m : Map) (ts : List Triangle) (fs : List ℕ) (os : List Bool) : Type 0 where
  pub walls : List Walls
  pub are_walls : AreWalls m ts walls
  pub are_faces : AreFaces ts walls fs
  pub are_open : AreOpen ts walls fs os
