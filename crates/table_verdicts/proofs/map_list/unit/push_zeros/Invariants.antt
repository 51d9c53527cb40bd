use Rattle.std.proofs.Common.{◌≡◌, ◌++◌, replicate, string_bytes}
use Rattle.table_verdicts.proofs.map_list.unit.push_zeros.Given as goal

abbrev pub invariant-loop-left : goal.invariant-loop-left
invariant-loop-left l = string_bytes l.line ++ replicate l.left 48 ≡ string_bytes l.fn.line ++ replicate l.count 48

abbrev pub decreases-loop-left : goal.decreases-loop-left
decreases-loop-left l = l.left
