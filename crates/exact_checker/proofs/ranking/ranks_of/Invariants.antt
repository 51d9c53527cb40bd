use Rattle.std.proofs.Common.{◌≡◌, List, length}
use Rattle.sight_names.specs.declared.names.PairRay.{PairRay}
use Rattle.exact_checker.specs.Rows.{AreJoinedRows}
use Rattle.exact_checker.proofs.Owned.{RanksBelow}
use Rattle.exact_checker.proofs.ranking.ranks_of.Given as goal

abbrev pub invariant-loop-row : goal.invariant-loop-row
invariant-loop-row l = record {
  len : length l.ranks.items ≡ l.row-index;
  ranks : (rays : List PairRay) → AreJoinedRows l.count rays l.joined → RanksBelow l.count l.row-index rays l.ranks.items;
}
