use Rattle.std.proofs.Common.{◌≡◌, ◌+◌, ◌-◌, ◌*◌, ◌≤◌}
use Rattle.std.specs.List.{range_with_len, sum_by}
use Rattle.map_answers.specs.Counts.{set_from, set_pairs}
use Rattle.map_answers.proofs.counts.count_set.Given as goal

abbrev pub invariant-loop-a : goal.invariant-loop-a
invariant-loop-a l = (l.count + sum_by (set_from l.table) (range_with_len l.a (l.table.n - l.a)) ≡ set_pairs l.table) × (l.count ≤ l.a * 65536)
