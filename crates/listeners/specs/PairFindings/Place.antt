-- Where one who goes through all pairs in order stands in a list of pairs.
use Rattle.std.specs.Prelude.{◌≡◌, ℕ, List}
use Rattle.std.specs.List.{AllByRecursion}
use Rattle.sight_names.specs.declared.names.Pair.{Pair}
use Rattle.sight_names.specs.Order.{Ascends, PairBefore}
use Rattle.listeners.specs.PairFindings.Found.{is_pair_listed, pair}

-- These pairs of the list are left where the pair (a, b) comes next: none of them comes before it, and of each pair from there on they
-- tell what the list tells.
pub record IsLeftAt (listed left : List Pair) (a b : ℕ) : Type 0 where
  pub same : (c d : ℕ) → ¬ PairBefore (pair c d) (pair a b) → is_pair_listed left c d ≡ is_pair_listed listed c d
  pub behind : AllByRecursion (λ (p : Pair). ¬ PairBefore p (pair a b)) left
  pub ascend : Ascends PairBefore left
