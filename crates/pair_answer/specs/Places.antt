-- The groups of a sector, and which of them passable lines connect with others.
use Rattle.std.specs.Prelude.{◌≡◌, ℕ, ◌<◌, ◌↔◌, List, slice_get, Contains}
use Rattle.sight_names.specs.Groups.{IsInGroup}
use Rattle.pair_answer.specs.Numbers.{IsAmongFirst}

-- the places of the groups that contain the sector
abbrev pub ArePlacesOf : List (List ℕ) → ℕ → List ℕ → Type 0
ArePlacesOf groups a fs = (f : ℕ) → Contains fs f ↔ IsInGroup groups a f

-- of the first n groups
abbrev pub ArePlacesBelow : ℕ → List (List ℕ) → ℕ → List ℕ → Type 0
ArePlacesBelow n groups a fs = (f : ℕ) → Contains fs f ↔ ((f < n) × IsInGroup groups a f)

-- some number is one of both
abbrev pub ShareOne : List ℕ → List ℕ → Type 0
ShareOne these those = (x : ℕ) × Contains these x × Contains those x

-- one of these has the component of the group
abbrev pub IsJoined : List ℕ → List ℕ → ℕ → Type 0
IsJoined components others f = (k : ℕ) × Contains others k × (slice_get components k ≡ slice_get components f)

-- those of the groups that have the component of one of the others
abbrev pub AreJoinedByComponent : List ℕ → List ℕ → List ℕ → List ℕ → Type 0
AreJoinedByComponent components groups others kept = (f : ℕ) → Contains kept f ↔ (Contains groups f × IsJoined components others f)

-- of the first n of them
abbrev pub AreJoinedBelow : ℕ → List ℕ → List ℕ → List ℕ → List ℕ → Type 0
AreJoinedBelow n components groups others kept = (f : ℕ) → Contains kept f ↔ (IsAmongFirst n groups f × IsJoined components others f)
