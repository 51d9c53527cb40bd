use Rattle.udmf_map.proofs.Standing.{records_stand as lemma_records_stand}
use Rattle.udmf_map.proofs.laws.records_stand.Goals as goal

pub returns : goal.returns
returns c = lemma_records_stand
