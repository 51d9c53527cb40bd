-- The sectors that passable lines connect, each component named by its least sector.
use Rattle.std.specs.Prelude.{◌≡◌, ℕ, ◌<◌, ◌≤◌, ◌⊎◌, List, Some, length, slice_get, IsFalse}
use Rattle.sight_names.specs.declared.plan.Line.{Line}
use Rattle.sight_names.specs.Map.{Map}
use Rattle.sight_names.specs.Found.{AreConnected}
use Rattle.face_groups.specs.TriSectors.Classes.{AreLeast, WillBeOne, class_of}

-- each sector has the least sector that passable lines connect with it
pub record AreComponents (m : Map) (cs : List ℕ) : Type 0 where
  pub one_each : length cs ≡ m.sectors
  pub connected : (a b : ℕ) → slice_get cs a ≡ Some b → AreConnected m a b
  pub least : (a b c : ℕ) → slice_get cs a ≡ Some b → AreConnected m a c → b ≤ c

-- the line is passable, and its sides name the two sectors
pub record IsPassableBetween (l : Line) (a b : ℕ) : Type 0 where
  pub passable : IsFalse l.solid
  pub right : l.right ≡ Some a
  pub left : l.left ≡ Some b

-- the classes of the line's two sectors are put together where it is passable, and the others stay
pub record Connects (l : Line) (old new : List ℕ) : Type 0 where
  pub len : length new ≡ length old
  pub named : AreLeast new
  pub keeps : (k j : ℕ) → k < length old → j < length old → class_of old k ≡ class_of old j → class_of new k ≡ class_of new j
  pub joins : (a b : ℕ) → IsPassableBetween l a b → class_of new a ≡ class_of new b
  pub only : (k j : ℕ) → k < length old → j < length old → class_of new k ≡ class_of new j
      → (class_of old k ≡ class_of old j) ⊎ ((a b : ℕ) × IsPassableBetween l a b × WillBeOne old a b k j)
