use Rattle.std.proofs.Common.{◌≤◌, map}
use Rattle.sight_names.specs.Map.{map_of}
use Rattle.fault_report.specs.declared.slips.Nameless.{Nameless}
use Rattle.fault_report.specs.Slips.{AreJustNumbers, IsNameless}
use Rattle.fault_report.proofs.slips.nameless_of.Given as goal

abbrev pub invariant-loop-a : goal.invariant-loop-a
invariant-loop-a l = record { just : AreJustNumbers (IsNameless (map_of l.plan)) l.a (map (λ (s : Nameless). s.sector) l.found.items); within : l.a ≤ l.plan.sectors }
