use Rattle.std.proofs.Common.{◌≡◌, ◌++◌, drop}
use Rattle.map_picture.specs.Bytes.{fault_texts}
use Rattle.map_picture.proofs.faults.push_faults.Given as goal

abbrev pub invariant-loop-one : goal.invariant-loop-one
invariant-loop-one l = l.out.items ++ fault_texts l.frame l.places (drop l.one-index l.faults) ≡ l.fn.out.items ++ fault_texts l.frame l.places l.faults
