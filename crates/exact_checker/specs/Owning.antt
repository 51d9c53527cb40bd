-- What tells which claims a group owns.
use Rattle.std.specs.Prelude.{◌≡◌, ℕ, ◌<◌, ◌≤◌, List, Some, get_or, length, slice_get, true}
use Rattle.sight_names.specs.declared.names.PairRay.{PairRay}
use Rattle.gate_floods.specs.Bits.{is_owned, rank_of, ranks_before}
use Rattle.gate_floods.specs.declared.gate_masks.masks.Row.{Row}
use Rattle.exact_checker.specs.declared.owning.Owning.{Owning}
use Rattle.exact_checker.specs.Rows.{AreJoinedRows}

-- as plain lists
pub record OwningParts : Type 0 where
  pub count : ℕ
  pub components : List ℕ
  pub ranks : List ℕ
  pub joined : List Row

abbrev pub owning_of : Owning → OwningParts
owning_of k = record { count = k.count; components = k.components.now; ranks = k.ranks.now; joined = k.joined.now }

-- the rank of a group, by the list of all
abbrev pub rank_at : List ℕ → ℕ → ℕ
rank_at ranks f = get_or ranks f 0

-- each of n groups has its rank
pub record AreRanks (n : ℕ) (rays : List PairRay) (ranks : List ℕ) : Type 0 where
  pub len : length ranks ≡ n
  pub each : (f : ℕ) → f < n → slice_get ranks f ≡ Some (rank_of rays n f)

-- each list has an item for each group
pub record IsSized (known : OwningParts) : Type 0 where
  pub components : length known.components ≡ known.count
  pub ranks : length known.ranks ≡ known.count
  pub joined : length known.joined ≡ known.count

-- ranks and rows are by these rays
pub record KnowsOwning (rays : List PairRay) (known : OwningParts) : Type 0 where
  pub ranks : AreRanks known.count rays known.ranks
  pub joined : AreJoinedRows known.count rays known.joined

-- of n groups those that one owns
abbrev pub IsOwnedBit : List PairRay → List ℕ → ℕ → ℕ → ℕ → Type 0
IsOwnedBit rays components n f k = (k < n) × (is_owned rays components (rank_of rays n) f k ≡ true)

-- the group is of this component, and has at least this rank
abbrev pub RanksFrom : OwningParts → ℕ → ℕ → ℕ → Type 0
RanksFrom known component least k = (get_or known.components k 0 ≡ component) × (least ≤ rank_at known.ranks k)

-- the group ranks behind the other in its component
abbrev pub RanksBehind : OwningParts → ℕ → ℕ → Type 0
RanksBehind known f k = (k < known.count) × (get_or known.components k 0 ≡ get_or known.components f 0) × (ranks_before (rank_at known.ranks) f k ≡ true)
