use Rattle.std.proofs.Common.{rules, map, string_bytes}
use Rattle.program.proofs.Running.{hears_given, hears_reported, runs, runs_as, runs_reported}
use Rattle.program.proofs.Reporting.{reports, reports_if_ok}
use Rattle.program.proofs.runs.run_words.Goals as goal

pub returns-then-not-branch-clause-ends : goal.returns-then-not-branch-clause-ends
returns-then-not-branch-clause-ends g c = λ files e.
    runs_as (map string_bytes c.args.words.now) files _ _ _ _ _ _ _
    (runs (map string_bytes c.args.words.now) files _ _ _ _ _ _ _ c.run.result e (c.run.ensures.ends files e) c.run.ensures.listeners)
    (search rules)

pub returns-then-not-branch-clause-report : goal.returns-then-not-branch-clause-report
returns-then-not-branch-clause-report g c = λ files e. reports (map string_bytes c.args.words.now) files _ _ _ _ _ (returns-then-not-branch-clause-ends g c files e)

pub returns-clause-ends : goal.returns-clause-ends
returns-clause-ends g c = λ files e. runs_reported (map string_bytes c.args.words.now) files _ _ _ _ c.run_told.result (search rules) (c.run_told.ensures.ends files e)

pub returns-clause-report : goal.returns-clause-report
returns-clause-report g c = λ files e. reports_if_ok (map string_bytes c.args.words.now) files _ _ _ _ c.run_told.result (returns-clause-ends g c files e)

pub returns-then-not-branch-clause-listeners : goal.returns-then-not-branch-clause-listeners
returns-then-not-branch-clause-listeners g c = hears_given (map string_bytes c.args.words.now) _ _ _ _ c.run.result c.run.ensures.listeners (search rules)

pub returns-clause-listeners : goal.returns-clause-listeners
returns-clause-listeners g c = hears_reported (map string_bytes c.args.words.now) _ c.run_told.result (search rules) c.run_told.ensures.listeners
