-- The groups of each sector, by a table of groups.
use Rattle.std.specs.Prelude.{◌≡◌, ℕ, ◌<◌, ◌⊎◌, ◌↔◌, List, [], Contains, get_or, length}
use Rattle.sight_names.specs.Groups.{IsInGroup}
use Rattle.cert_checker.specs.Members.{AreMembersBy}

-- the places of the groups that contain the sector
abbrev pub AreGroupsWith : List (List ℕ) → ℕ → List ℕ → Type 0
AreGroupsWith groups a fs = (f : ℕ) → Contains fs f ↔ IsInGroup groups a f

-- of the first n groups
abbrev pub AreGroupsWithBelow : ℕ → List (List ℕ) → ℕ → List ℕ → Type 0
AreGroupsWithBelow n groups a fs = (f : ℕ) → Contains fs f ↔ ((f < n) × IsInGroup groups a f)

-- these are the groups of each of so many sectors
abbrev pub AreMembers : List (List ℕ) → ℕ → List (List ℕ) → Type 0
AreMembers groups sectors lists = AreMembersBy (IsInGroup groups) sectors lists

-- of the first n groups
pub record AreMembersSoFar (n : ℕ) (groups : List (List ℕ)) (sectors : ℕ) (lists : List (List ℕ)) : Type 0 where
  pub len : length lists ≡ sectors
  pub each : (a : ℕ) → a < sectors → AreGroupsWithBelow n groups a (get_or lists a [])

-- the list of this sector has the place too, and else what it had
pub record PutsOne (sector place : ℕ) (old new : List (List ℕ)) : Type 0 where
  pub len : length new ≡ length old
  pub each : (a f : ℕ) → a < length old → Contains (get_or new a []) f ↔ (Contains (get_or old a []) f ⊎ ((f ≡ place) × (a ≡ sector)))

-- so do the lists of these sectors
pub record PutsGroup (sectors : List ℕ) (place : ℕ) (old new : List (List ℕ)) : Type 0 where
  pub len : length new ≡ length old
  pub each : (a f : ℕ) → a < length old → Contains (get_or new a []) f ↔ (Contains (get_or old a []) f ⊎ ((f ≡ place) × Contains sectors a))
