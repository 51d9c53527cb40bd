use Rattle.gate_floods.proofs.Tells.{exact_tells as lemma_exact_tells}
use Rattle.gate_floods.proofs.laws.exact_tells.Goals as goal

pub returns : goal.returns
returns c = lemma_exact_tells
