use Rattle.std.proofs.Common.{◌≤◌, length}
use Rattle.sight_names.specs.Map.{map_of}
use Rattle.fault_report.specs.Slips.{AreMarks}
use Rattle.fault_report.proofs.slips.marks_of.Given as goal

abbrev pub invariant-loop-i : goal.invariant-loop-i
invariant-loop-i l = record { marks : AreMarks (map_of l.plan) l.i l.marks.items; within : l.i ≤ length l.plan.lines }
