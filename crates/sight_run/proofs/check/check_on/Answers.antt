use Rattle.std.proofs.Common.{ℕ, subst, sym}
use Rattle.std.specs.Prelude.{⊤}
use Rattle.std.proofs.lemmas.Result.{err_from_is_err_and}
use Rattle.sight_names.specs.Map.{map_of}
use Rattle.map_answers.specs.Views.{located_map}
use Rattle.map_answers.specs.SightStatus.Answer.{GivesCalled}
use Rattle.sight_run.specs.Check.{CheckCalls, OnCheckInput, check_input, told_as}
use Rattle.sight_run.proofs.Checks.{gives_line_refusal}
use Rattle.sight_run.proofs.CheckReplies.{gives_reply, reply_cause, reply_refusals, reply_right, reply_writes}
use Rattle.sight_run.proofs.check.check_on.Goals as goal

pub returns-in_err-audit_lines_of-clause-told : goal.returns-in_err-audit_lines_of-clause-told
returns-in_err-audit_lines_of-clause-told g c =
    let p = err_from_is_err_and c.from_residual.result c.from_residual.ensures.1 in
    λ files e. rw (p.1, p.2) (gives_line_refusal (map_of c.args.input.plan) ⊤ (OnCheckInput c.args.spelling (map_of c.args.input.plan) (check_input c.args.cert.now (located_map c.args.input) files)) c.in_err-audit_lines_of.field-0.0
    c.in_err-audit_lines_of.ensures.clash)

pub returns-clause-told : goal.returns-clause-told
returns-clause-told g c = λ files e. gives_reply c.args.spelling _ c.judge-found.result _ c.reply_of.result c.reply_of.ensures
    (subst (λ (n : ℕ). GivesCalled ⊤ (CheckCalls c.args.spelling c.args.cert.now files (located_map c.args.input)) (told_as c.args.spelling n c.judge-found.result)) (sym c.sectors_of-n.ensures) (c.judge-found.ensures.told files c.args.spelling e))

pub returns-clause-cause : goal.returns-clause-cause
returns-clause-cause g c = reply_cause c.args.spelling _ c.judge-found.result _ _ c.reply_of.result c.reply_of.ensures c.judge-found.ensures.cause

pub returns-clause-refusals : goal.returns-clause-refusals
returns-clause-refusals g c = reply_refusals c.args.spelling _ c.judge-found.result c.reply_of.result c.reply_of.ensures c.judge-found.ensures.refusals

pub returns-clause-roles : goal.returns-clause-roles
returns-clause-roles g c = reply_writes c.args.spelling _ c.judge-found.result c.reply_of.result c.reply_of.ensures

pub returns-clause-right : goal.returns-clause-right
returns-clause-right g c = reply_right c.args.spelling _ c.judge-found.result c.reply_of.result c.reply_of.ensures
