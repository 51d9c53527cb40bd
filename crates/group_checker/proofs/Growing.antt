-- The groups of a sector among the first of a table, and among all.
use Rattle.std.proofs.Common.{ℕ, ◌<◌, ◌≤◌, List, length, arith}
use Rattle.std.proofs.lemmas.Option.{slice_get_within}
use Rattle.group_checker.specs.Members.{AreGroupsWith, AreGroupsWithBelow}

pub places_all : (groups : List (List ℕ)) (a n : ℕ) (fs : List ℕ) → length groups ≤ n → AreGroupsWithBelow n groups a fs → AreGroupsWith groups a fs
places_all groups a n fs l all f = (λ c. ((all f).0 c).1, λ h. (all f).1 (let k = slice_get_within groups f h.0 h.1 in omega (arith, l, k), h))
