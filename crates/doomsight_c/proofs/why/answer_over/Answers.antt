use Rattle.doomsight_c.proofs.why.answer_over.Goals as goal

pub pair_answer-requires : goal.pair_answer-requires
pair_answer-requires c = let o = c.requires.over in record { groups = record { faces = o.faces; groups = o.are; grouped = o.is; mesh = o.mesh; labelled = o.labelled; points = c.requires.points } }
