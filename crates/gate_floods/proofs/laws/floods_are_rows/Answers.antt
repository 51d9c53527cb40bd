use Rattle.gate_floods.proofs.Masks.{floods_are_rows as lemma_floods_are_rows}
use Rattle.gate_floods.proofs.laws.floods_are_rows.Goals as goal

pub returns : goal.returns
returns c = lemma_floods_are_rows
