use Rattle.std.proofs.Common.{◌≡◌, ◌+◌, ◌-◌, ◌≤◌}
use Rattle.std.specs.List.{count_by, range_with_len}
use Rattle.map_answers.specs.Counts.{is_pair_set, set_from}
use Rattle.map_answers.proofs.counts.count_from.Given as goal

abbrev pub invariant-loop-b : goal.invariant-loop-b
invariant-loop-b l = (l.count + count_by (is_pair_set l.table l.a) (range_with_len l.b (l.table.n - l.b)) ≡ set_from l.table l.a) × (l.count ≤ l.b)
