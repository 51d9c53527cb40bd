use Rattle.std.proofs.Common.{Ok, sym, subst}
use Rattle.std.proofs.lemmas.Result.{err_from_is_err_and}
use Rattle.map_answers.specs.SightStatus.Answer.{Answer, GivesCalled}
use Rattle.map_answers.specs.Views.{located_map}
use Rattle.sight_run.specs.Draw.{DrawCalls, HasOneDrawing}
use Rattle.sight_run.proofs.draw.make_drawing.Goals as goal

pub returns-in_err-drawn-clause-called : goal.returns-in_err-drawn-clause-called
returns-in_err-drawn-clause-called c =
    let p = err_from_is_err_and c.from_residual.result c.from_residual.ensures.1 in
    rw (p.1, p.2) (c.in_err-drawn.ensures.judged c.args.out.now)

pub returns-in-Ok-clause-called : goal.returns-in-Ok-clause-called
returns-in-Ok-clause-called c =
    subst (λ (answer : Answer). GivesCalled (HasOneDrawing c.args.view (Ok (located_map c.args.input.now))) (DrawCalls c.args.name.now c.args.out.now c.args.view (located_map c.args.input.now)) (Ok answer)) (sym c.in-Ok.ensures.replied) (c.in_ok-drawn.ensures.judged c.args.out.now)
