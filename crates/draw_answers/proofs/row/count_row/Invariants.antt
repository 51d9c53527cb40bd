use Rattle.std.proofs.Common.{◌≡◌, ◌+◌, ◌-◌, ◌≤◌}
use Rattle.std.specs.List.{count_by, range_with_len}
use Rattle.map_answers.specs.Counts.{is_pair_set}
use Rattle.draw_answers.specs.Lines.{set_in_row}
use Rattle.draw_answers.proofs.row.count_row.Given as goal

abbrev pub invariant-loop-b : goal.invariant-loop-b
invariant-loop-b l = (l.count + count_by (is_pair_set l.table l.a) (range_with_len l.b (l.table.n - l.b)) ≡ set_in_row l.table l.a) × (l.count ≤ l.b)
