use Rattle.sight_names.specs.Map.{map_of}
use Rattle.map_audit.specs.Audit.{FineBelow}
use Rattle.map_audit.proofs.fault_of_line.Given as goal

abbrev pub invariant-loop-j : goal.invariant-loop-j
invariant-loop-j l = FineBelow (map_of l.plan) l.i l.j
