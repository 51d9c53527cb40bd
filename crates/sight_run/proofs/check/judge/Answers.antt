use Rattle.std.proofs.Common.{ap}
use Rattle.std.proofs.lemmas.Result.{err_from_is_err_and}
use Rattle.reject_bits.specs.Parts.{TableParts}
use Rattle.map_answers.specs.declared.input.Input.{Input}
use Rattle.map_answers.specs.Views.{located_map}
use Rattle.sight_run.proofs.CheckInputs.{fetch_refused, judged_gives, table_refused}
use Rattle.sight_run.proofs.check.judge.Goals as goal

pub judged_in-requires-clause-audited : goal.judged_in-requires-clause-audited
judged_in-requires-clause-audited g c = rw c.plan_alone-plan.ensures c.requires.lines.meet

pub returns-in_err-table-clause-told : goal.returns-in_err-table-clause-told
returns-in_err-table-clause-told g c =
    let p = err_from_is_err_and c.from_residual.result c.from_residual.ensures.1 in
    let size = ap (λ (x : Input). x.plan.sectors) c.input.view_is in
    λ files spelled e. rw (p.1, p.2) (table_refused c.args.name.now (located_map c.args.input) files c.requires.lines _ c.reject.result.now size c.reject.ensures TableParts spelled c.in_err-table.field-0.0 c.in_err-table.ensures.refusals c.in_err-table.ensures.taken)

pub returns-in_err-judged-clause-told : goal.returns-in_err-judged-clause-told
returns-in_err-judged-clause-told g c =
    let p = err_from_is_err_and c.from_residual-in_err-judged.result c.from_residual-in_err-judged.ensures.1 in
    let size = ap (λ (x : Input). x.plan.sectors) c.input.view_is in
    λ files spelled e. rw (p.1, p.2) (fetch_refused c.args.name.now (located_map c.args.input) files c.requires.lines _ c.reject.result.now size c.reject.ensures c.in_ok-table.ensures.taken c.in_ok-table.table spelled c.in_err-judged.field-0.0
    c.in_err-judged.ensures.refusals (c.in_err-judged.ensures.told files e))

pub returns-clause-told : goal.returns-clause-told
returns-clause-told g c =
    let size = ap (λ (x : Input). x.plan.sectors) c.input.view_is in
    λ files spelled e. let j = (rw c.plan_alone-plan.ensures at c.in_ok-judged.ensures.told) files e in
    rw c.found_by.ensures.found (judged_gives c.args.name.now (located_map c.args.input) files c.requires.lines _ c.reject.result.now size c.reject.ensures c.in_ok-table.ensures.taken c.in_ok-table.table spelled j.bytes c.in_ok-judged.judged
    c.in_ok-table.ensures.table j.whole j.judged)
