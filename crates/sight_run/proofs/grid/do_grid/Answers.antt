use Rattle.std.proofs.Common.{◌≡◌, ℕ, Bool, Result, Ok, Err, sym, subst}
use Rattle.std.specs.Prelude.{⊤}
use Rattle.std.specs.Result.{IsErr, IsErrAnd}
use Rattle.sight_names.specs.Map.{Map}
use Rattle.sight_names.specs.declared.names.Method.{Method}
use Rattle.map_answers.specs.SightStatus.Answer.{Answer, GivesCalled}
use Rattle.map_answers.specs.declared.sight_status.status.Status.{Status}
use Rattle.sight_run.specs.Grid.{GridCalls, MadeMapCalls, made_map}
use Rattle.map_answers.specs.Input.{LocatedMap, OnFound}
use Rattle.sight_run.specs.declared.reply.Reply.{Reply}
use Rattle.sight_run.specs.Reply.{reply_seen}
use Rattle.map_answers.specs.Views.{located_map}
use Rattle.sight_run.proofs.grid.do_grid.Goals as goal

-- what the made map calls for is what the order calls for
given_found : (n : ℕ) (hexen : Bool) (method : Method) (f : LocatedMap) (r : Result Answer Status) → made_map n hexen ≡ Ok f → GivesCalled ⊤ (MadeMapCalls n method f.map) r → GivesCalled ⊤ (GridCalls n hexen method) r
given_found n hexen method f r e h = subst (λ (o : Result LocatedMap Status). GivesCalled ⊤ (λ (a : Result Answer Status). OnFound o (λ (k : LocatedMap). MadeMapCalls n method k.map) a) r) (sym e) h

-- a refusal that is passed on is the same refusal
carried : (n : ℕ) (method : Method) (m : Map) (e : Status) (r : Result Reply Status) → IsErr r × IsErrAnd r (λ (s : Status). s ≡ e) → GivesCalled ⊤ (MadeMapCalls n method m) (Err e) → GivesCalled ⊤ (MadeMapCalls n method m) (reply_seen r)
carried n method m e (Ok v) h g = absurd h.1
carried n method m e (Err s) h g = subst (λ (t : Status). GivesCalled ⊤ (MadeMapCalls n method m) (Err t)) (sym h.1) g

pub returns-in_err-line-clause-called : goal.returns-in_err-line-clause-called
returns-in_err-line-clause-called g c = given_found c.args.n c.args.hexen c.args.method (located_map c.in_ok-input.input) (reply_seen c.from_residual-in_err-line.result) c.in_ok-input.ensures.found
    (carried c.args.n c.args.method (located_map c.in_ok-input.input).map c.in_err-line.field-0.0 c.from_residual-in_err-line.result c.from_residual-in_err-line.ensures c.in_err-line.ensures.called)
