use Rattle.sight_names.specs.Map.{map_of}
use Rattle.fault_report.proofs.Telling.{first_clash}
use Rattle.fault_report.proofs.report.clash_text.Goals as goal

pub told_clashes-requires : goal.told_clashes-requires
told_clashes-requires c = first_clash (map_of c.args.plan.now) _ _ c.args.clashes.now.count c.as_slice.ensures c.requires
