use Rattle.sight_run.proofs.on_map.answer_on.Goals as goal

pub returns-in-Draw-clause-called : goal.returns-in-Draw-clause-called
returns-in-Draw-clause-called c = rw c.in-Draw.is (λ files heard. rw (c.as_str-in-Draw.ensures, c.as_str-in-Draw-2.ensures) at c.make_drawing.ensures.called)
