use Rattle.std.proofs.Common.{◌≢◌, sym, subst}
use Rattle.sight_names.specs.Map.{map_of}
use Rattle.doomsight_c.specs.declared.fault.DoomsightFault.{DoomsightFault}
use Rattle.doomsight_c.proofs.Giving.{built_for, of_audit, refused_map}
use Rattle.doomsight_c.proofs.build.build_fitting.Goals as goal

pub returns-in-Ok-clause-built : goal.returns-in-Ok-clause-built
returns-in-Ok-clause-built c = built_for (map_of c.args.plan.now) c.args.method c.args.room c.requires c.in-Ok.built c.in-Ok.ensures.built

pub returns-in-Err-clause-refused : goal.returns-in-Err-clause-refused
returns-in-Err-clause-refused c =
    refused_map c.faults_tell_statuses.ensures.tell c.args.room (map_of c.args.plan.now) c.requires c.in-Err.status c.in-Err.ensures.built c.fault_of.result c.fault_of.ensures

pub returns-in-Err-clause-code : goal.returns-in-Err-clause-code
returns-in-Err-clause-code c =
    subst (λ (f : DoomsightFault). f.code ≢ 0) (sym c.fault_of.ensures)
    (c.faults_tell_statuses.ensures.codes c.in-Err.status (of_audit (map_of c.args.plan.now) c.in-Err.status c.in-Err.ensures.built))
