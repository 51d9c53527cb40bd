use Rattle.std.proofs.Common.{string_bytes}
use Rattle.std.specs.Prelude.{⊤}
use Rattle.std.proofs.lemmas.Result.{err_from_is_err_and}
use Rattle.sight_names.specs.Map.{map_of}
use Rattle.map_answers.specs.Audit.{SoundCall}
use Rattle.map_answers.specs.Groups.{seen}
use Rattle.map_answers.proofs.Audits.{gives_line}
use Rattle.map_answers.proofs.Closed.{gives_flaw}
use Rattle.map_answers.proofs.audit.judge_audit.Goals as goal

pub returns-in_err-groups-clause-judged : goal.returns-in_err-groups-clause-judged
returns-in_err-groups-clause-judged c =
    let p = err_from_is_err_and c.from_residual.result c.from_residual.ensures.1 in
    rw (p.1, p.2) (gives_flaw (map_of c.args.plan.now) ⊤ (SoundCall (map_of c.args.plan.now)) c.in_err-groups.field-0.0 c.in_err-groups.ensures.refusals)

pub returns-in-Ok-clause-judged : goal.returns-in-Ok-clause-judged
returns-in-Ok-clause-judged c =
    let e = c.in_ok-groups.ensures in
    gives_line c.args.plan.now (seen c.in_ok-groups.groups) (string_bytes c.in-Ok.line) e.groups.plan e.lines e.groups.over c.in-Ok.ensures
