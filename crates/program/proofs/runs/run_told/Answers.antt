use Rattle.std.proofs.Common.{rules, map, string_bytes}
use Rattle.program.proofs.Running.{both_given, hears_given, runs, runs_as}
use Rattle.program.proofs.runs.run_told.Goals as goal

pub returns-clause-ends : goal.returns-clause-ends
returns-clause-ends g c = λ files e.
    runs_as (map string_bytes c.args.words.now) files _ _ _ _ _ _ _
    (runs (map string_bytes c.args.words.now) files _ _ _ _ _ _ _ c.run.result e (c.run.ensures.ends files e) c.run.ensures.listeners)
    (both_given _ _ c.args.lines c.args.totals (search rules) c.requires.lines_new c.requires.totals_new)

pub returns-clause-listeners : goal.returns-clause-listeners
returns-clause-listeners g c = hears_given (map string_bytes c.args.words.now) _ _ _ _ c.run.result c.run.ensures.listeners (both_given _ _ c.args.lines c.args.totals (search rules) c.requires.lines_new c.requires.totals_new)
