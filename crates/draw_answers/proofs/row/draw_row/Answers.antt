use Rattle.std.specs.Prelude.{⊤}
use Rattle.std.proofs.Common.{ℕ, ◌<◌, ◌≤◌, refl, subst}
use Rattle.std.proofs.lemmas.Result.{err_from_is_err_and}
use Rattle.sight_names.specs.Map.{map_of}
use Rattle.map_answers.specs.Groups.{seen}
use Rattle.map_answers.proofs.Closed.{gives_flaw}
use Rattle.draw_answers.specs.Row.{RowCall, row_drawing}
use Rattle.draw_answers.proofs.Making.{gives_made}
use Rattle.draw_answers.proofs.Rows.{gives_none, only_row}
use Rattle.draw_answers.proofs.row.draw_row.Goals as goal

pub returns-in_err-groups-clause-judged : goal.returns-in_err-groups-clause-judged
returns-in_err-groups-clause-judged c = λ out.
    let p = err_from_is_err_and c.from_residual.result c.from_residual.ensures.1 in
    rw (p.1, p.2) (gives_flaw (map_of c.args.plan.now) ⊤ (RowCall c.args.map.now out (map_of c.args.plan.now) c.args.table.now c.args.a) c.in_err-groups.field-0.0 c.in_err-groups.ensures.refusals)

pub returns-then-a-sectors-clause-judged : goal.returns-then-a-sectors-clause-judged
returns-then-a-sectors-clause-judged c = λ out.
    let e = c.in_ok-groups.ensures in
    let le : c.args.plan.now.sectors ≤ c.args.a = subst (λ (n : ℕ). n ≤ c.args.a) c.count_of-sectors.ensures c.if-a-sectors.true in
    gives_none c.args.plan.now c.args.map.now out c.args.table.now c.args.a (seen c.in_ok-groups.groups) e.groups.plan e.lines e.groups.over le

pub returns-clause-judged : goal.returns-clause-judged
returns-clause-judged c = λ out.
    let e = c.in_ok-groups.ensures in
    let p = c.args.plan.now in
    let m = map_of p in
    let g = seen c.in_ok-groups.groups in
    let lt : c.args.a < p.sectors = subst (λ (n : ℕ). c.args.a < n) c.count_of-sectors.ensures c.if-a-sectors.false in
    gives_made p e.groups.plan (RowCall c.args.map.now out m c.args.table.now c.args.a) out g e.lines e.groups.over (row_drawing c.args.map.now m c.args.table.now c.args.a g)
    (lt, refl) (only_row c.args.map.now out m c.args.table.now c.args.a g lt) c.drawn_row.result c.made.result c.drawn_row.ensures c.made.ensures.made
