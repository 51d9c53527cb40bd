use Rattle.gate_floods.proofs.GateMasks.Behind.{masks_behind as lemma}
use Rattle.gate_floods.proofs.gate_masks.laws.masks_are_found_behind.Goals as goal

pub returns : goal.returns
returns c = lemma
