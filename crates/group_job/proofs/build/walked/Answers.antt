use Rattle.std.proofs.lemmas.Result.{IfOk-weaker}
use Rattle.group_job.proofs.build.walked.Goals as goal

pub built_of-requires-clause-results : goal.built_of-requires-clause-results
built_of-requires-clause-results g c = rw c.into_vec.ensures (record { results = c.in_ok-gathered.ensures.results; workers = c.args.workers; walked = c.in_ok-gathered.ensures.walked; settled = c.in_ok-gathered.ensures.settled })

pub returns : goal.returns
returns g c = λ p grouped. IfOk-weaker c.built_of.result _ _ (λ b built. (c.budget_for.result, record { grouped = grouped; is_budget = c.budget_for.ensures; built = built })) c.built_of.ensures
