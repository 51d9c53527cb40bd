use Rattle.any_judge.proofs.judge.Judge.feed.Goals as goal

pub feed-requires : goal.feed-requires
feed-requires c = record { plan = c.requires.plan; table = c.requires.table; bytes = c.requires.bytes; course = c.requires.fed.course c.in_default.is; few = c.requires.few }

pub returns-in-Ok-clause-fed : goal.returns-in-Ok-clause-fed
returns-in-Ok-clause-fed c = λ p t bytes w. record { plan = w.plan; course = λ _. c.in-Ok.ensures p t bytes (w.course c.in_default.is) }
