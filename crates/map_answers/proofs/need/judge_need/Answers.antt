use Rattle.std.proofs.Common.{ℕ, List, sym, subst}
use Rattle.std.specs.Prelude.{⊤}
use Rattle.std.proofs.lemmas.Result.{err_from_is_err_and}
use Rattle.sight_names.specs.Map.{map_of}
use Rattle.map_answers.specs.Groups.{seen}
use Rattle.map_answers.specs.Need.{AreNeeds, NeedsOf}
use Rattle.map_answers.proofs.Closed.{gives_flaw}
use Rattle.map_answers.proofs.Needs.{gives_need}
use Rattle.map_answers.proofs.need.judge_need.Goals as goal

pub returns-in_err-groups-clause-judged : goal.returns-in_err-groups-clause-judged
returns-in_err-groups-clause-judged c =
    let p = err_from_is_err_and c.from_residual.result c.from_residual.ensures.1 in
    rw (p.1, p.2) (gives_flaw (map_of c.args.plan.now) ⊤ (NeedsOf c.args.name.now) c.in_err-groups.field-0.0 c.in_err-groups.ensures.refusals)

pub returns-clause-judged : goal.returns-clause-judged
returns-clause-judged c =
    let e = c.in_ok-groups.ensures in
    let g = c.in_ok-groups.groups in
    gives_need c.args.plan.now c.args.name.now (seen g) c.deref.result.now c.need_line_of.result e.groups.plan e.lines e.groups.over e.groups.good
    (subst (λ (ns : List ℕ). AreNeeds (map_of g.grouped.plan) g.mesh.triangles g.grouped.labels ns) (sym {A = List ℕ} c.deref.ensures.value) c.in_ok-numbers.ensures.numbers)
    c.need_line_of.ensures.line c.need_line_of.ensures.refusals
