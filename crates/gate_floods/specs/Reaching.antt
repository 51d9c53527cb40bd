-- What a sector reaches by a sequence with few portals.
use Rattle.std.specs.Prelude.{◌≡◌, ◌≢◌, ℕ, ◌≤◌, List, Option, Some, length}
use Rattle.sight_names.specs.declared.names.Triangle.{Triangle}
use Rattle.sight_names.specs.Map.{Map, IsMap}
use Rattle.sight_names.specs.Mesh.{IsGoodMesh}
use Rattle.sight_names.specs.Sequence.{Portal, Sequence, IsSequence, IsStabbable, reached}

-- a sequence of a that a line splits and that reaches b, of at most so many portals
pub record ReachesWithin (m : Map) (ts : List Triangle) (ls : List (Option ℕ)) (n a b : ℕ) : Type 0 where
  pub sequence : Sequence
  pub portals : List Portal
  pub is : IsSequence m ts ls a sequence portals
  pub line : IsStabbable m portals
  pub arrives : reached ts ls portals ≡ Some b
  pub few : length portals ≤ n

-- whoever is reached by a sequence is also reached back, with no more portals
abbrev pub SequencesTurn : Type 0
SequencesTurn = (m : Map) (ts : List Triangle) (ls : List (Option ℕ)) (n a b : ℕ) → IsMap m → IsGoodMesh m ts ls → a ≢ b → ReachesWithin m ts ls n a b → ReachesWithin m ts ls n b a
