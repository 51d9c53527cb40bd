use Rattle.table_verdicts.proofs.judging.first_of.Goals as goal

pub sight_of_pair-requires : goal.sight_of_pair-requires
sight_of_pair-requires c = let h = rw c.in-Some.is at c.requires in record { row = h.row; column = h.column; sees = h.is.1 }

pub returns-in-Ok-clause-first : goal.returns-in-Ok-clause-first
returns-in-Ok-clause-first c = let h = rw c.in-Some.is at c.requires in record { is_first = h; sight = rw c.in-Ok.is at c.sight_of_pair.ensures.shown }

pub returns-in_default-clause-first : goal.returns-in_default-clause-first
returns-in_default-clause-first c = rw c.in_default.is at c.requires
