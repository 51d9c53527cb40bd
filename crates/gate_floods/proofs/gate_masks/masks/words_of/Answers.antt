use Rattle.gate_floods.proofs.GateMasks.Masking.{words_absent, words_at}
use Rattle.gate_floods.proofs.gate_masks.masks.words_of.Goals as goal

pub returns-in-Some : goal.returns-in-Some
returns-in-Some c = let l = c.in-Some.ensures.lookup in words_at c.args.rows.now c.args.number c.in-Some.row.now c.as_slice.result.now c.as_slice.ensures.value l.3.0 l.1

pub returns-in-None : goal.returns-in-None
returns-in-None c = words_absent c.args.rows.now c.args.number c.in-None.ensures.lookup.3
