use Rattle.std.proofs.Common.{ℕ, List, ap, ◌∙◌}
use Rattle.std.specs.Prelude.{⊤, string_bytes}
use Rattle.std.proofs.lemmas.Result.{err_from_is_err_and}
use Rattle.sight_names.specs.Map.{map_of}
use Rattle.map_answers.specs.Groups.{seen}
use Rattle.map_answers.specs.Trace.{RayCallsFor, places_of_groups, trace_line}
use Rattle.map_answers.proofs.Closed.{gives_flaw}
use Rattle.map_answers.proofs.Traces.{gives_line, gives_stopped}
use Rattle.map_answers.proofs.trace.judge_trace.Goals as goal

pub returns-in_err-groups-clause-judged : goal.returns-in_err-groups-clause-judged
returns-in_err-groups-clause-judged c =
    let p = err_from_is_err_and c.from_residual.result c.from_residual.ensures.1 in
    rw (p.1, p.2) (gives_flaw (map_of c.args.plan.now) ⊤ (RayCallsFor c.args.ray.now) c.in_err-groups.field-0.0 c.in_err-groups.ensures.refusals)

pub returns-in_err-passed-clause-judged : goal.returns-in_err-passed-clause-judged
returns-in_err-passed-clause-judged c =
    let e = c.in_ok-groups.ensures in
    let p = err_from_is_err_and c.from_residual-in_err-passed.result c.from_residual-in_err-passed.ensures.1 in
    rw (p.1, p.2) (gives_stopped c.args.plan.now c.args.ray.now (seen c.in_ok-groups.groups) c.in_err-passed.field-0.0 e.groups.plan e.lines e.groups.over c.in_err-passed.ensures.answer)

pub returns-in-Ok-trace_line_of-clause-judged : goal.returns-in-Ok-trace_line_of-clause-judged
returns-in-Ok-trace_line_of-clause-judged c =
    let e = c.in_ok-groups.ensures in
    let g = c.in_ok-groups.groups in
    gives_line c.args.plan.now c.args.ray.now (seen g) c.in_ok-passed.passed.items c.in-Ok.places.items (string_bytes c.in-Ok-trace_line_of.line) e.groups.plan e.lines e.groups.over c.in_ok-passed.ensures.answer
    (c.in-Ok.ensures ∙ ap (places_of_groups g.grouped.labels) c.deref.ensures.value)
    (c.in-Ok-trace_line_of.ensures ∙ ap (λ (gs : List (List ℕ)). trace_line gs c.deref-2.result.now) c.as_slice.ensures ∙ ap (trace_line g.grouped.groups) c.deref-2.ensures.value)
