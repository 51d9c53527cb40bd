use Rattle.gate_floods.proofs.RowBits.{rows_are_bits as lemma_rows_are_bits}
use Rattle.gate_floods.proofs.laws.rows_are_bits.Goals as goal

pub returns : goal.returns
returns c = lemma_rows_are_bits
