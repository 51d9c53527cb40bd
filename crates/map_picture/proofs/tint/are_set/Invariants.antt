use Rattle.std.proofs.Common.{◌≡◌, ◌==◌, ◌+◌, ◌*◌, drop}
use Rattle.std.specs.List.{list_all}
use Rattle.sight_names.specs.Table.{table_bit}
use Rattle.map_picture.proofs.tint.are_set.Given as goal

abbrev pub invariant-loop-b : goal.invariant-loop-b
invariant-loop-b l = list_all (λ b. table_bit l.table.bytes (l.a * l.table.n + b) == 1) (drop l.b-index l.names) ≡ list_all (λ b. table_bit l.table.bytes (l.a * l.table.n + b) == 1) l.names
