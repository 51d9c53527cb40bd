use Rattle.std.proofs.Common.{ℕ, Ok, subst}
use Rattle.std.proofs.lemmas.Result.{err_from_is_err_and}
use Rattle.map_answers.specs.SightStatus.Answer.{GivesCalled}
use Rattle.map_answers.specs.Views.{located_map}
use Rattle.draw_answers.specs.Drawn.{drawn_answer}
use Rattle.sight_run.specs.Draw.{HasOneDrawing, ViewCalls}
use Rattle.sight_run.proofs.draw.draw_named.Goals as goal

pub returns-in_err-places-clause-judged : goal.returns-in_err-places-clause-judged
returns-in_err-places-clause-judged c =
    let p = err_from_is_err_and c.from_residual.result c.from_residual.ensures.1 in
    λ out. rw (p.1, p.2) (rw c.in_err-places.ensures.refusals tt)

pub returns-clause-judged : goal.returns-clause-judged
returns-clause-judged c =
    let f = located_map c.args.input.now in
    λ out. subst (λ (k : ℕ). GivesCalled (HasOneDrawing c.args.view (Ok f)) (ViewCalls (record { text = c.args.name.now; places = k }) out c.args.view f) (drawn_answer out c.draw_view.result)) c.in_ok-places.ensures.places (c.draw_view.ensures.judged out)
