use Rattle.sight_names.specs.Map.{map_of}
use Rattle.map_faults.proofs.FirstClash.{clash_not_fine}
use Rattle.fault_marks.proofs.marks.clash_at.Goals as goal

pub unreachable-requires : goal.unreachable-requires
unreachable-requires c = clash_not_fine (map_of c.args.plan.now) c.args.pair c.requires (rw c.in-None.is at c.fault_of.ensures)
