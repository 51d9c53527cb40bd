use Rattle.gate_floods.proofs.GateMasks.Claiming.{masks_of_claims as lemma}
use Rattle.gate_floods.proofs.gate_masks.laws.masks_are_those_of_claims.Goals as goal

pub returns : goal.returns
returns c = lemma
