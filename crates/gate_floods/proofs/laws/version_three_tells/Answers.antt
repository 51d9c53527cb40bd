use Rattle.gate_floods.proofs.Tells.{version_three_tells as lemma_version_three_tells}
use Rattle.gate_floods.proofs.laws.version_three_tells.Goals as goal

pub returns : goal.returns
returns c = lemma_version_three_tells
