use Rattle.std.proofs.Common.{◌≤◌, length, map}
use Rattle.fault_report.specs.declared.slips.Sideless.{Sideless}
use Rattle.fault_report.specs.Slips.{AreJustNumbers, IsSideless}
use Rattle.fault_report.proofs.slips.sideless_of.Given as goal

abbrev pub invariant-loop-i : goal.invariant-loop-i
invariant-loop-i l = record { just : AreJustNumbers (IsSideless l.plan) l.i (map (λ (s : Sideless). s.line) l.found.items); within : l.i ≤ length l.plan.lines }
