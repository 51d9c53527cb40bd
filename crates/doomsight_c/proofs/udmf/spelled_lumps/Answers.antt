use Rattle.udmf_map.specs.Lumps.{lumps_of_text}
use Rattle.doomsight_c.proofs.Texts.{no_text, no_text_code}
use Rattle.doomsight_c.proofs.udmf.spelled_lumps.Goals as goal

pub returns-in-Err-clause-refused : goal.returns-in-Err-clause-refused
returns-in-Err-clause-refused c =
    no_text c.faults_tell_statuses.ensures.tell (lumps_of_text c.args.text.now) c.in-Err.fault c.in-Err.ensures c.status_of_text.result c.status_of_text.ensures c.fault_of.result c.fault_of.ensures

pub returns-in-Err-clause-code : goal.returns-in-Err-clause-code
returns-in-Err-clause-code c =
    no_text_code c.faults_tell_statuses.ensures.codes c.in-Err.fault c.status_of_text.result c.status_of_text.ensures c.fault_of.result c.fault_of.ensures
