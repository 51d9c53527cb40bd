use Rattle.std.proofs.Common.{◌≡◌, ◌++◌, string_bytes, take}
use Rattle.std.specs.List.{flat_map}
use Rattle.fault_report.proofs.kinds.push_each.Given as goal

abbrev pub invariant-loop-fault : goal.invariant-loop-fault
invariant-loop-fault g l = string_bytes l.text ≡ string_bytes l.fn.text ++ flat_map (g.F.Fault.line l.spelling l.plan) (take l.fault-index l.faults)
