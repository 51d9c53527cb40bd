use Rattle.gate_floods.proofs.Chains.{later_may_follow as lemma_later_may_follow}
use Rattle.gate_floods.proofs.laws.later_may_follow.Goals as goal

pub returns : goal.returns
returns c = lemma_later_may_follow
