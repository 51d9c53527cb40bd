use Rattle.gate_floods.proofs.RowsOn.{rows_go_on as lemma_rows_go_on}
use Rattle.gate_floods.proofs.laws.rows_go_on.Goals as goal

pub returns : goal.returns
returns c = lemma_rows_go_on
