use Rattle.gate_floods.proofs.Masks.{masks_are_rows as lemma_masks_are_rows}
use Rattle.gate_floods.proofs.laws.masks_are_rows.Goals as goal

pub returns : goal.returns
returns c = lemma_masks_are_rows
