use Rattle.std.proofs.Common.{take}
use Rattle.sight_names.specs.Map.{map_of}
use Rattle.fault_report.specs.Clashes.{AreToldClashes}
use Rattle.fault_report.proofs.clashes.told_clashes.Given as goal

abbrev pub invariant-loop-pair : goal.invariant-loop-pair
invariant-loop-pair l = AreToldClashes (map_of l.plan) (take l.pair-index l.pairs) l.told.items
