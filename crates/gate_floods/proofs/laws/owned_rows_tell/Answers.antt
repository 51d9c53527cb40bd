use Rattle.gate_floods.proofs.Owned.{owned_rows_tell as lemma_owned_rows_tell}
use Rattle.gate_floods.proofs.laws.owned_rows_tell.Goals as goal

pub returns : goal.returns
returns c = lemma_owned_rows_tell
