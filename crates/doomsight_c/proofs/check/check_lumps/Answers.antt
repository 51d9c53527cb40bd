use Rattle.std.proofs.Common.{◌≢◌, sym, subst}
use Rattle.doomsight_c.specs.Lumps.{of_lumps_given}
use Rattle.doomsight_c.specs.declared.fault.DoomsightFault.{DoomsightFault}
use Rattle.doomsight_c.proofs.Giving.{given_is_librarys, of_reading}
use Rattle.doomsight_c.proofs.Judging.{unproved_read}
use Rattle.doomsight_c.proofs.check.check_lumps.Goals as goal

pub returns-in-Err-clause-no : goal.returns-in-Err-clause-no
returns-in-Err-clause-no c =
    let a = c.args in
    let read = of_lumps_given a.reading a.linedefs.now a.sidedefs.now a.vertexes.now a.sectors.now in
    let lib = given_is_librarys a.reading a.linedefs.now a.sidedefs.now a.vertexes.now a.sectors.now in
    unproved_read c.faults_tell_statuses.ensures.tell a.reject.now a.cert.now read lib c.in-Err.status c.in-Err.ensures.refusals c.in-Err.ensures.map c.fault_of.result c.fault_of.ensures

pub returns-in-Err-clause-code : goal.returns-in-Err-clause-code
returns-in-Err-clause-code c =
    let a = c.args in
    let read = of_lumps_given a.reading a.linedefs.now a.sidedefs.now a.vertexes.now a.sectors.now in
    let lib = given_is_librarys a.reading a.linedefs.now a.sidedefs.now a.vertexes.now a.sectors.now in
    subst (λ (f : DoomsightFault). f.code ≢ 0) (sym c.fault_of.ensures)
    (c.faults_tell_statuses.ensures.codes c.in-Err.status (of_reading read lib c.in-Err.status c.in-Err.ensures.refusals c.in-Err.ensures.map))
