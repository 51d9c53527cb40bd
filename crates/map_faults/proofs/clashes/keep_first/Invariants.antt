use Rattle.std.proofs.Common.{◌≡◌, ◌++◌, ◌≤◌, length, map, take}
use Rattle.map_faults.specs.declared.clashes.TheConstants.{MOST_CLASHES}
use Rattle.map_faults.specs.Clashes.{clash_of_lines}
use Rattle.map_faults.proofs.clashes.keep_first.Given as goal

abbrev pub invariant-loop-j : goal.invariant-loop-j
invariant-loop-j l = record { few : length l.pairs.items ≤ MOST_CLASHES; so_far : l.pairs.items ≡ l.fn.pairs.items ++ map (clash_of_lines l.i) (take l.j-index l.others) }
