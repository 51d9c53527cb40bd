-- What `draw` leaves under its output's name.
use Rattle.std.proofs.Common.{◌≡◌, ◌==◌, ℕ, List, length, Bool, true, false, if◌then◌else◌, Option, Some, None, Result, Ok, Err, refl, ap, ◌∙◌, subst}
use Rattle.shelf_io.specs.Shelf.{Files}
use Rattle.order_words.specs.declared.order.View.{View}
use Rattle.order_words.specs.declared.order.View.TheVariants as view
use Rattle.sight_names.specs.Map.{Map}
use Rattle.reject_bits.specs.Parts.{TableParts}
use Rattle.map_answers.specs.declared.sight_status.status.Flaw.{Flaw}
use Rattle.map_answers.specs.declared.sight_status.status.Status.{Status}
use Rattle.map_answers.specs.SightStatus.Answer.{Answer}
use Rattle.map_picture.specs.Picture.{NamedParts}
use Rattle.draw_answers.specs.Drawn.{Drawing, one_picture}
use Rattle.draw_answers.specs.Faults.{DrawsFault}
use Rattle.draw_answers.specs.Heat.{DrawHeatCalls, heat_drawing}
use Rattle.draw_answers.specs.Plan.{plan_drawing}
use Rattle.draw_answers.specs.Row.{DrawRowCalls, row_drawing}
use Rattle.map_answers.specs.Input.{LocatedMap, OnFound}
use Rattle.sight_run.specs.Check.{reject_bytes}
use Rattle.sight_run.specs.Draw.{ByOwnTable, DrawCalls, IsCallIn, OnTable, ViewCalls, named_in}
use Rattle.sight_run.specs.Obeys.{AnswersOrder}
use Rattle.sight_run.specs.Reading.{found_of}
use Rattle.sight_run.specs.Run.{put_outputs}
use Rattle.whole_wad.specs.Rejects.{table_len}
use Rattle.sight_run.proofs.Round.{same_ok}
use Rattle.run_laws.specs.Laws.{DrawLeavesPicture, IsPictureOf, LeavesPicture, ShowsFault, ShowsPlan, ShowsView}
use Rattle.run_laws.proofs.Keeping.{stored}

leaves : (files : Files) (out : List ℕ) (answer : Answer) (d : Drawing) (IsPicture : List ℕ → Type 0) → answer ≡ one_picture out d → IsPicture d.bytes → LeavesPicture out files (put_outputs files answer.writes) IsPicture
leaves files out answer d IsPicture e is = record {
  bytes = d.bytes;
  is_picture = is;
  stands = ap (λ (a : Answer). put_outputs files a.writes out) e ∙ stored files out d.bytes;
  others = λ name apart. ap (λ (a : Answer). put_outputs files a.writes name) e ∙ ap (λ (b : Bool). if b then Some d.bytes else files name) apart;
}

-- the bytes of the REJECT are a table, and the answer is one that it calls for
on_table : (Called : TableParts → Result Answer Status → Type 0) (m : Map) (raw : List ℕ) (s : Status) (b : Bool) (answer : Answer) → OnTable Called m (if b then Ok raw else Err s) (Ok answer) → IsCallIn Called m raw (Ok answer)
on_table Called m raw s true answer q = q
on_table Called m raw s false answer q = absurd cc

call_in : (Called : TableParts → Result Answer Status → Type 0) (found : LocatedMap) (answer : Answer) → ByOwnTable Called found (Ok answer) → IsCallIn Called found.map (reject_bytes found) (Ok answer)
call_in Called found answer q = on_table Called found.map (reject_bytes found) _ (length (reject_bytes found) == table_len found.map.sectors) answer q

-- the bytes that are drawn, and what they show
record IsDrawn (name : NamedParts) (out : List ℕ) (asked : View) (found : LocatedMap) (answer : Answer) : Type 0 where
  drawing : Drawing
  is : answer ≡ one_picture out drawing
  shows : ShowsView name found asked drawing.bytes

of_fault : (name : NamedParts) (m : Map) (fault : Option Flaw) (d : Drawing) → DrawsFault name m fault d → ShowsFault name m d.bytes fault
of_fault name m (Some which) d draws = record { marks = draws.marks; are = draws.are; is = ap (λ (x : Drawing). x.bytes) draws.is }
of_fault name m None d draws = record { groups = draws.groups; over = draws.over; is = ap (λ (x : Drawing). x.bytes) draws.is }

drawn : (name : NamedParts) (out : List ℕ) (asked : View) (found : LocatedMap) (answer : Answer) → ViewCalls name out asked found (Ok answer) → IsDrawn name out asked found answer
drawn name out view.Plan found answer q =
    let g = q.1.groups in
    record { drawing = plan_drawing name found.map g; is = same_ok answer (one_picture out (plan_drawing name found.map g)) q.1.called; shows = record { groups = g; over = q.1.over; is = refl } }
drawn name out view.Faults found answer q = record { drawing = q.shown; is = q.is; shows = record { fault = q.fault; first = q.first; is = of_fault name found.map q.fault q.shown q.draws } }
drawn name out (view.Row a) found answer q =
    let r = call_in (λ t. DrawRowCalls name out t a found.map) found answer q in
    record {
      drawing = row_drawing name found.map r.table a r.called.1.groups;
      is = r.called.1.called.1;
      shows = record { within = r.called.1.called.0; table = r.table; spelled = r.spelled; groups = r.called.1.groups; over = r.called.1.over; is = refl };
    }
drawn name out view.Heat found answer q =
    let r = call_in (λ t. DrawHeatCalls name out t found.map) found answer q in
    let d = heat_drawing name found.map r.table r.called.1.groups in
    record {
      drawing = d;
      is = same_ok answer (one_picture out d) r.called.1.called;
      shows = record { table = r.table; spelled = r.spelled; groups = r.called.1.groups; over = r.called.1.over; is = refl };
    }
drawn name out (view.Pair pair ask) found answer q =
    let x = q.1 in
    record {
      drawing = x.called.shown;
      is = x.called.is;
      shows = record { given = x.called.given; is_answer = x.called.is_answer; groups = x.groups; over = x.over; shown = x.called.shown; shows = x.called.shows; is = refl };
    }

pub draw_leaves_picture : DrawLeavesPicture
draw_leaves_picture words wad name out asked files heard answer is_asked h = on (found_of wad name files) refl (subst (λ r. AnswersOrder r files heard (Ok answer)) is_asked h)
  where
    on : (r : Result LocatedMap Status) → found_of wad name files ≡ r → OnFound r (DrawCalls name out asked) (Ok answer) → LeavesPicture out files (put_outputs files answer.writes) (IsPictureOf wad name asked files)
    on (Err s) e q = absurd cc
    on (Ok found) e q = let d = drawn (named_in found name) out asked found answer q in leaves files out answer d.drawing (IsPictureOf wad name asked files) d.is (record { found = found; was = e; shows = d.shows })
