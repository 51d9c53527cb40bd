-- Open sides: just those against a closed map, in order.
use Rattle.std.specs.Prelude.{◌≡◌, ℕ, ◌⊎◌, List, [], ◌∷◌, ◌++◌, Bool, true, false, Contains}
use Rattle.sight_names.specs.declared.names.Side.{Side}
use Rattle.sight_names.specs.declared.names.Triangle.{Triangle}
use Rattle.sight_names.specs.declared.plan.Line.{Line}
use Rattle.sight_names.specs.Map.{Map}
use Rattle.sight_names.specs.Order.{Ascends}
use Rattle.mesh_shape.specs.Faults.{IsSideBefore}
use Rattle.mesh_shape.specs.HalfEdges.Numbers.{edge}
use Rattle.face_groups.specs.TriSectors.Sides.{IsSealedSide, IsSealedAt}
use Rattle.face_groups.specs.TriSectors.Verdict.{IsClosedSide}

-- of the sides of which D holds, just those against P, in order
pub record AreSidesAgainst (D P : Side → Type 0) (ss : List Side) : Type 0 where
  pub each : (s : Side) → Contains ss s → D s × ¬ P s
  pub rest : (s : Side) → D s → P s ⊎ Contains ss s
  pub ascend : Ascends IsSideBefore ss

-- just the sides that name a sector and are touched by a point from which a path leads out of the hull
abbrev pub AreOpenSides : Map → List Side → Type 0
AreOpenSides m ss = AreSidesAgainst (λ s. Unit {0}) (IsClosedSide m) ss

-- just those that name a sector and have no triangle, or one on an open face
abbrev pub AreOpenBy : Map → List Triangle → List ℕ → List Bool → List Side → Type 0
AreOpenBy m ts fs os ss = AreSidesAgainst (λ s. Unit {0}) (IsSealedAt m ts fs os) ss

-- ---- side after side

-- the side is added behind the others, unless P holds
abbrev pub AddsOpen : Type 0 → Side → List Side → List Side → Type 0
AddsOpen P side old new = (P × (new ≡ old)) ⊎ ((¬ P) × (new ≡ old ++ side ∷ []))

-- both sides of the line, the right one first
pub record AddsSides (ts : List Triangle) (fs : List ℕ) (os : List Bool) (i : ℕ) (l : Line) (old new : List Side) : Type 0 where
  pub middle : List Side
  pub right : AddsOpen (IsSealedSide ts fs os (edge l.b l.a) l.right) (record { line = i; left = false }) old middle
  pub left : AddsOpen (IsSealedSide ts fs os (edge l.a l.b) l.left) (record { line = i; left = true }) middle new
