use Rattle.std.proofs.Common.{◌≢◌, sym, subst}
use Rattle.sight_names.specs.Map.{map_of}
use Rattle.doomsight_c.specs.declared.fault.DoomsightFault.{DoomsightFault}
use Rattle.doomsight_c.proofs.Giving.{of_audit}
use Rattle.doomsight_c.proofs.KeptBuilds.{called_map}
use Rattle.doomsight_c.proofs.keep.keep_plan.Goals as goal

pub returns-in-Err-clause-refused : goal.returns-in-Err-clause-refused
returns-in-Err-clause-refused c =
    called_map c.faults_tell_statuses.ensures.tell (map_of c.args.plan.now) c.in-Err.status c.in-Err.ensures.refused c.fault_of.result c.fault_of.ensures

pub returns-in-Err-clause-code : goal.returns-in-Err-clause-code
returns-in-Err-clause-code c =
    subst (λ (f : DoomsightFault). f.code ≢ 0) (sym c.fault_of.ensures)
    (c.faults_tell_statuses.ensures.codes c.in-Err.status (of_audit (map_of c.args.plan.now) c.in-Err.status c.in-Err.ensures.refused))
