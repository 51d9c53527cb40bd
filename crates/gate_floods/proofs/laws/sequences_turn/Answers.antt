use Rattle.gate_floods.proofs.Cutting.{sequences_turn as lemma_sequences_turn}
use Rattle.gate_floods.proofs.laws.sequences_turn.Goals as goal

pub returns : goal.returns
returns c = lemma_sequences_turn
