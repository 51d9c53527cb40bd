-- What the bits of groups and the listed pairs of groups say of pairs of sectors.
use Rattle.std.specs.Prelude.{◌≡◌, ℕ, ◌<◌, ◌⊎◌, ◌↔◌, List, Contains}
use Rattle.sight_names.specs.declared.names.Pair.{Pair}
use Rattle.sight_names.specs.Groups.{IsInGroup}
use Rattle.sight_names.specs.Order.{Ascends, PairBefore}
use Rattle.reject_bits.specs.Parts.{TableParts, Rejects}

-- the pair is in the list, in the one order or in the other
abbrev pub AreListed : List Pair → ℕ → ℕ → Type 0
AreListed pairs a b = Contains pairs (record { a = a; b = b }) ⊎ Contains pairs (record { a = b; b = a })

-- the bit of some groups that contain the two sectors is clear
abbrev pub AreClearByGroups : TableParts → List (List ℕ) → ℕ → ℕ → Type 0
AreClearByGroups t groups a b = (f k : ℕ) × IsInGroup groups a f × IsInGroup groups b k × ¬ Rejects t f k

-- some groups that contain the two sectors are listed
abbrev pub AreListedByGroups : List Pair → List (List ℕ) → ℕ → ℕ → Type 0
AreListedByGroups pairs groups a b = (f k : ℕ) × IsInGroup groups a f × IsInGroup groups b k × AreListed pairs f k

-- the bits of these pairs are clear
abbrev pub AreClear : TableParts → List Pair → Type 0
AreClear t pairs = (q : Pair) → Contains pairs q → ¬ Rejects t q.a q.b × ¬ Rejects t q.b q.a

-- the bit of some groups that contain the two sectors is clear, and they aren't listed: they see each other
abbrev pub AreSeenByGroups : TableParts → List Pair → List (List ℕ) → ℕ → ℕ → Type 0
AreSeenByGroups t pairs groups a b = (f k : ℕ) × IsInGroup groups a f × IsInGroup groups b k × (¬ Rejects t f k × ¬ AreListed pairs f k)

-- each sector of a group is below this number
abbrev pub AreOfSectors : ℕ → List (List ℕ) → Type 0
AreOfSectors sectors groups = (f a : ℕ) → IsInGroup groups a f → a < sectors

abbrev pub ArePairsBelow : ℕ → List Pair → Type 0
ArePairsBelow n pairs = (q : Pair) → Contains pairs q → (q.a < n) × (q.b < n)

-- a table of so many sectors, with the bits of the pairs that are clear by groups
pub record HasClearPairs (t : TableParts) (groups : List (List ℕ)) (sectors : ℕ) (marks : TableParts) : Type 0 where
  pub sectors_are : marks.n ≡ sectors
  pub bits : (a b : ℕ) → a < sectors → b < sectors → Rejects marks a b ↔ AreClearByGroups t groups a b

-- the pairs that have their bit in the one table and not in the other, the smaller sector first
pub record ListsBetween (these others : TableParts) (listed : List Pair) : Type 0 where
  pub exactly : (q : Pair) → Contains listed q ↔ ((q.a < q.b) × (q.b < these.n) × Rejects these q.a q.b × (¬ Rejects others q.a q.b))
  pub ascend : Ascends PairBefore listed

-- a table of sectors and a list of pairs of them by the bits of groups and their listed pairs: a bit is set where the bits of all
-- groups that contain the two sectors are; a pair is listed where some of these bits are clear, and each clear one is that of a listed pair
pub record FollowGroups (t : TableParts) (pairs : List Pair) (groups : List (List ℕ)) (sectors : ℕ) (table : TableParts) (list : List Pair) : Type 0 where
  pub sectors_are : table.n ≡ sectors
  pub bits : (a b : ℕ) → a < sectors → b < sectors → Rejects table a b ↔ (¬ AreClearByGroups t groups a b)
  pub listed : (q : Pair) → Contains list q ↔ ((q.a < q.b) × (q.b < sectors) × AreClearByGroups t groups q.a q.b × (¬ AreSeenByGroups t pairs groups q.a q.b))
  pub ascend : Ascends PairBefore list
  -- and what is so can be told: the groups of a clear bit, and of one that isn't listed
  pub clear : (a b : ℕ) → a < sectors → b < sectors → ¬ Rejects table a b → AreClearByGroups t groups a b
  pub seen : (a b : ℕ) → a < b → b < sectors → ¬ Rejects table a b → ¬ Contains list (record { a = a; b = b }) → AreSeenByGroups t pairs groups a b
