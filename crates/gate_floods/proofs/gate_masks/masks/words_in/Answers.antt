use Rattle.gate_floods.proofs.gate_masks.masks.words_in.Goals as goal

pub returns-in-Some : goal.returns-in-Some
returns-in-Some c = (c.in-Some.row, c.in-Some.is, c.as_slice.ensures.value)
