-- A list of pairs, made row by row.
use Rattle.std.specs.Prelude.{ℕ, ◌<◌, ◌↔◌, List, Contains}
use Rattle.sight_names.specs.declared.names.Pair.{Pair}
use Rattle.sight_names.specs.Order.{Ascends, PairBefore}
use Rattle.reject_bits.specs.Parts.{TableParts, Rejects}
use Rattle.pair_budget.specs.Rows.{IsPairBefore}

-- the pair has its bit in the one table and not in the other, the smaller sector first
abbrev pub IsBitBetween : TableParts → TableParts → ℕ → ℕ → Type 0
IsBitBetween these others a b = (a < b) × (b < these.n) × Rejects these a b × (¬ Rejects others a b)

-- the list has these pairs of the rows before a, and of row a those before b
pub record ListedBefore (these others : TableParts) (a b : ℕ) (listed : List Pair) : Type 0 where
  pub exactly : (q : Pair) → Contains listed q ↔ (IsBitBetween these others q.a q.b × IsPairBefore q.a q.b a b)
  pub ascend : Ascends PairBefore listed
