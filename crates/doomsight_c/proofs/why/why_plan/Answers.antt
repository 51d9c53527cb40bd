use Rattle.std.proofs.Common.{◌≢◌, sym, subst}
use Rattle.sight_names.specs.Map.{map_of}
use Rattle.doomsight_c.specs.declared.fault.DoomsightFault.{DoomsightFault}
use Rattle.doomsight_c.proofs.Saying.{of_denial, said_of, unsaid_map}
use Rattle.doomsight_c.proofs.why.why_plan.Goals as goal

pub returns-in-Ok-clause-said : goal.returns-in-Ok-clause-said
returns-in-Ok-clause-said c = said_of (map_of c.args.plan.now) c.args.ask c.args.pair c.in-Ok.given c.in-Ok.ensures.answered c.answer_of.result c.answer_of.ensures

pub returns-in-Err-clause-refused : goal.returns-in-Err-clause-refused
returns-in-Err-clause-refused c =
    unsaid_map c.faults_tell_statuses.ensures.tell c.args.pair (map_of c.args.plan.now) c.in-Err.status c.in-Err.ensures.refused c.fault_of.result c.fault_of.ensures

pub returns-in-Err-clause-code : goal.returns-in-Err-clause-code
returns-in-Err-clause-code c =
    subst (λ (f : DoomsightFault). f.code ≢ 0) (sym c.fault_of.ensures)
    (c.faults_tell_statuses.ensures.codes c.in-Err.status (of_denial (map_of c.args.plan.now) c.args.pair c.in-Err.status c.in-Err.ensures.refused))
