use Rattle.std.specs.Prelude.{⊤}
use Rattle.std.proofs.Common.{refl}
use Rattle.std.proofs.lemmas.Result.{err_from_is_err_and}
use Rattle.sight_names.specs.Map.{map_of}
use Rattle.map_answers.specs.Groups.{seen}
use Rattle.map_answers.proofs.Closed.{gives_flaw}
use Rattle.draw_answers.specs.Heat.{HeatCall, heat_drawing}
use Rattle.draw_answers.proofs.Making.{gives_made}
use Rattle.draw_answers.proofs.heat.draw_heat.Goals as goal

pub returns-in_err-groups-clause-judged : goal.returns-in_err-groups-clause-judged
returns-in_err-groups-clause-judged c = λ out.
    let p = err_from_is_err_and c.from_residual.result c.from_residual.ensures.1 in
    rw (p.1, p.2) (gives_flaw (map_of c.args.plan.now) ⊤ (HeatCall c.args.map.now out (map_of c.args.plan.now) c.args.table.now) c.in_err-groups.field-0.0 c.in_err-groups.ensures.refusals)

pub returns-clause-judged : goal.returns-clause-judged
returns-clause-judged c = λ out.
    let e = c.in_ok-groups.ensures in
    let p = c.args.plan.now in
    let g = seen c.in_ok-groups.groups in
    gives_made p e.groups.plan (HeatCall c.args.map.now out (map_of p) c.args.table.now) out g e.lines e.groups.over (heat_drawing c.args.map.now (map_of p) c.args.table.now g) refl (λ x k. k)
    c.drawn_heat.result c.made.result c.drawn_heat.ensures c.made.ensures.made
