use Rattle.sight_names.specs.Map.{map_of}
use Rattle.map_audit.specs.Audit.{FineBefore}
use Rattle.map_audit.proofs.first_fault.Given as goal

abbrev pub invariant-loop-i : goal.invariant-loop-i
invariant-loop-i l = FineBefore (map_of l.plan) l.i
