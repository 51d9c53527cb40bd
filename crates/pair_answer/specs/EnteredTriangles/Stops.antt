-- The segments through which one could pass from triangles of a set to others.
use Rattle.std.specs.Prelude.{◌≡◌, ℕ, ◌<◌, ◌⊎◌, ◌↔◌, List, Some, Contains, if◌then◌else◌, nat_lt}
use Rattle.sight_names.specs.declared.names.Triangle.{Triangle}
use Rattle.sight_names.specs.Map.{Map}
use Rattle.sight_names.specs.Mesh.{triangle_at}
use Rattle.sight_names.specs.Order.{Ascends}
use Rattle.sight_names.specs.Points.{Edge, reverse_of}
use Rattle.sight_names.specs.Sequence.{IsSolidLine}
use Rattle.mesh_shape.specs.HalfEdges.Kinds.{portal_on}
use Rattle.mesh_shape.specs.HalfEdges.Numbers.{edge}
use Rattle.map_picture.specs.declared.pair.Stop.{Stop}

-- the segment between two points, from the least number to the greatest
abbrev pub segment : ℕ → ℕ → Stop
segment u v = if nat_lt u v then record { from = u; to = v } else record { from = v; to = u }

-- by the first point, then by the second
abbrev pub StopBefore : Stop → Stop → Type 0
StopBefore s t = (s.from < t.from) ⊎ ((s.from ≡ t.from) × (s.to < t.to))

module _ (m : Map) (ts : List Triangle) (Inside : ℕ → Type 0) where
  -- a triangle outside of the set has this directed edge, and the edge is no solid line
  pub record LeavesAt (e : Edge) : Type 0 where
    pub beyond : ℕ
    pub is : triangle_at ts e ≡ Some beyond
    pub outside : ¬ Inside beyond
    pub free : ¬ IsSolidLine m (portal_on e)

  -- through the segment one could pass from a triangle of the set to one outside of it
  pub record IsStop (s : Stop) : Type 0 where
    pub e : Edge
    pub is : s ≡ segment e.from e.to
    pub near : ℕ
    pub at : triangle_at ts e ≡ Some near
    pub inside : Inside near
    pub leaves : LeavesAt (reverse_of e)

  abbrev pub AreStopsOf : List Stop → Type 0
  AreStopsOf ss = (s : Stop) → Contains ss s ↔ IsStop s

  -- ---- how the code gathers them

  -- beside the others the segment is there, where one could leave the set by it
  abbrev pub IsStopPut : ℕ → ℕ → List Stop → List Stop → Type 0
  IsStopPut from to old new = (s : Stop) → Contains new s ↔ (Contains old s ⊎ ((s ≡ segment from to) × LeavesAt (edge to from)))

  -- the same for one of the three edges of the triangle
  abbrev pub IsOneOf : Triangle → Stop → Type 0
  IsOneOf t s = ((s ≡ segment t.p t.q) × LeavesAt (edge t.q t.p)) ⊎ (((s ≡ segment t.q t.r) × LeavesAt (edge t.r t.q)) ⊎ ((s ≡ segment t.r t.p) × LeavesAt (edge t.p t.r)))

  abbrev pub ArePut : Triangle → List Stop → List Stop → Type 0
  ArePut t old new = (s : Stop) → Contains new s ↔ (Contains old s ⊎ IsOneOf t s)

-- the same in order, each once
pub record AreStopsInOrder (all left : List Stop) : Type 0 where
  pub ascend : Ascends StopBefore left
  pub exactly : (s : Stop) → Contains left s ↔ Contains all s
