use Rattle.std.proofs.Common.{List, Ok, sym, ap, subst}
use Rattle.std.proofs.lemmas.Result.{err_from_is_err_and}
use Rattle.map_answers.specs.SightStatus.Answer.{Answer, IsTheAnswer, Written}
use Rattle.map_answers.specs.Views.{located_map}
use Rattle.sight_run.specs.Obeys.{CallsOn, HasOneOn, WritesEach}
use Rattle.sight_run.specs.Reply.{roles_of}
use Rattle.sight_run.proofs.Verifying.{ends_right}
use Rattle.sight_run.proofs.on_map.line_reply.Goals as goal

pub returns-in_err-line_on : goal.returns-in_err-line_on
returns-in_err-line_on c =
    let p = err_from_is_err_and c.from_residual.result c.from_residual.ensures.1 in
    let said = c.in_err-line_on.ensures in
    rw (p.1, p.2) (record { called = said.called; refusals = said.refusals; past = said.past; proper = said.proper; roles = tt; right = tt })

pub returns : goal.returns
returns c =
    let said = c.in_ok-line_on.ensures in
    record {
      called = λ files heard. subst (λ (answer : Answer). IsTheAnswer (HasOneOn c.args.order.now (Ok (located_map c.args.input.now))) (CallsOn c.args.order.now files heard (located_map c.args.input.now)) (Ok answer)) (sym c.line_alone.ensures.replied) (said.called files heard);
      refusals = tt;
      past = tt;
      proper = tt;
      roles = subst (λ (ws : List Written). WritesEach c.args.order.now (roles_of ws)) (sym (ap (λ (a : Answer). a.writes) c.line_alone.ensures.replied)) tt;
      right = ends_right c.args.order.now (Ok c.line_alone.result) c.line_alone.ensures.right;
    }
