use Rattle.std.proofs.Common.{◌≡◌, ap}
use Rattle.std.proofs.lemmas.Result.{err_from_is_err_and}
use Rattle.sight_names.specs.Plan.{PlanParts}
use Rattle.reject_bits.specs.Parts.{TableParts}
use Rattle.map_answers.specs.Views.{located_map}
use Rattle.draw_answers.specs.Drawn.{drawn_answer}
use Rattle.draw_answers.specs.Row.{DrawRowCalls}
use Rattle.sight_run.proofs.Drawing.{table_drawn, table_refused}
use Rattle.sight_run.proofs.OneRow.{row_fixed}
use Rattle.sight_run.proofs.draw.draw_row_of.Goals as goal

pub returns-in_err-table-clause-judged : goal.returns-in_err-table-clause-judged
returns-in_err-table-clause-judged c =
    let p = err_from_is_err_and c.from_residual.result c.from_residual.ensures.1 in
    let size : c.plan.inside.sectors ≡ c.args.input.now.plan.sectors = ap (λ (q : PlanParts). q.sectors) c.plan.view_is in
    λ out. rw (p.1, p.2) (table_refused (located_map c.args.input.now) (λ (t : TableParts). DrawRowCalls c.args.name.now out t c.args.a (located_map c.args.input.now).map) c.plan.inside.sectors c.reject.result.now size c.reject.ensures TableParts c.in_err-table.field-0.0 c.in_err-table.ensures.refusals c.in_err-table.ensures.taken)

pub returns-clause-judged : goal.returns-clause-judged
returns-clause-judged c =
    let size : c.plan.inside.sectors ≡ c.args.input.now.plan.sectors = ap (λ (q : PlanParts). q.sectors) c.plan.view_is in
    λ out. table_drawn (located_map c.args.input.now) (λ (t : TableParts). DrawRowCalls c.args.name.now out t c.args.a (located_map c.args.input.now).map) c.plan.inside.sectors c.reject.result.now size c.reject.ensures (row_fixed c.args.name.now out c.args.a (located_map c.args.input.now).map) c.in_ok-table.table (drawn_answer out c.draw_row.result) c.in_ok-table.ensures.taken c.in_ok-table.ensures.table
    (c.draw_row.ensures.judged out)
