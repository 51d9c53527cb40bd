use Rattle.exact_job.proofs.settling.first_round.Goals as goal

pub judged-requires-clause-ascend : goal.judged-requires-clause-ascend
judged-requires-clause-ascend g c = c.in_ok-each.ensures.ascend
