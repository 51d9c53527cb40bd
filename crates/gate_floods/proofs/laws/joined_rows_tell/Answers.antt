use Rattle.gate_floods.proofs.RowBits.{joined_rows_tell as lemma_joined_rows_tell}
use Rattle.gate_floods.proofs.laws.joined_rows_tell.Goals as goal

pub returns : goal.returns
returns c = lemma_joined_rows_tell
