-- What stands in the report of a build that is done.
use Rattle.std.proofs.Common.{◌≡◌, ◌∙◌, ℕ, List, Option, Some, Result, Ok, Err, IfOk, refl, ap, subst}
use Rattle.listeners.specs.declared.finding.Finding.{Finding}
use Rattle.listeners.specs.Listening.{ListenerState}
use Rattle.listeners.specs.Reporters.{new_reporters}
use Rattle.listeners.specs.Told.{AreFindingsTold}
use Rattle.listeners.proofs.Reports.{report_of_both, texts_of_both}
use Rattle.map_answers.specs.Input.{LocatedMap, OnFound}
use Rattle.order_words.specs.declared.order.Order.{Order}
use Rattle.order_words.specs.declared.order.Order.TheVariants as order
use Rattle.order_words.specs.declared.order.Source.{Source}
use Rattle.shelf_io.specs.Shelf.{Files, ShelfState}
use Rattle.shelf_io.specs.Sink.{SinkState}
use Rattle.sight_names.specs.declared.names.Method.{Method}
use Rattle.map_answers.specs.SightStatus.Answer.{Answer}
use Rattle.map_answers.specs.declared.sight_status.status.Status.{Status}
use Rattle.map_answers.specs.declared.sight_status.status.Status.TheVariants as status
use Rattle.sight_run.specs.Build.{BuildCalls, build_writes}
use Rattle.sight_run.specs.Heard.{AllHeard, AreFindingsIn, Hears}
use Rattle.sight_run.specs.Obeys.{AnswersOrder}
use Rattle.sight_run.specs.Reading.{found_of}
use Rattle.sight_run.specs.Run.{put_outputs}
use Rattle.sight_run.specs.Words.{asked_of}
use Rattle.sight_run.proofs.Stood.{asked_is, under_report}
use Rattle.program.specs.Words.{HoldsReport, LeavesReport, Reports, RunsWords, is_reported, listeners_where}

module _ (words : List (List ℕ)) (files : Files) (before after : ShelfState) (old new : SinkState) (wad : Source) (name out report : List ℕ) (cert : Option (List ℕ)) (workers : ℕ) (method : Method)
    (h : RunsWords words files before after old new status.Done) (is_asked : asked_of words ≡ Ok (order.Build wad name out cert (Some report) workers method)) where
  given : h.heard.before ≡ new_reporters
  given = h.given_are ∙ ap (λ (o : Option Order). listeners_where (is_reported o)) (asked_is words (order.Build wad name out cert (Some report) workers method) is_asked)

  -- the listeners heard the findings of the map
  told : AllHeard (AreFindingsIn (Some files) wad name method) h.heard
  told = subst (λ (r : Result Order Status). Hears r (Some files) h.heard status.Done) is_asked h.hears

  told_both : (fs : List Finding) (text : List ℕ) → AreFindingsTold fs h.heard.before h.heard.after text → AreFindingsTold fs new_reporters h.heard.after text
  told_both fs text t = subst (λ (l : List ListenerState). AreFindingsTold fs l h.heard.after text) given t

  abbrev answer : Answer
  answer = h.ends.ends.answer

  on_found : (r : Result LocatedMap Status) → OnFound r (BuildCalls name out cert (Some report) method h.heard) (Ok answer) → HoldsReport files after.files wad name report method
  on_found (Err s) q = absurd cc
  on_found (Ok found) q = record {
    others = put_outputs files answer.writes;
    told = h.ends.ends.stands;
    bytes = q.report;
    stands = ap (λ (a : Answer). put_outputs files a.writes report) q.is ∙ under_report files (build_writes out q.bytes cert q.spelled) report q.report;
    is = record {
      findings = told.0;
      are = told.1;
      is = report_of_both q.findings h.heard.after q.report (told_both q.findings q.report q.told) ∙ texts_of_both told.0 h.heard.after told.2 (told_both told.0 told.2 told.3);
    };
  }

  pub holds_report : HoldsReport files after.files wad name report method
  holds_report = on_found (found_of wad name files) (subst (λ (r : Result Order Status). AnswersOrder r files h.heard (Ok answer)) is_asked h.ends.ends.called.called)

pub reports : (words : List (List ℕ)) (files : Files) (before after : ShelfState) (old new : SinkState) (s : Status) → RunsWords words files before after old new s → Reports words files after.files s
reports words files before after old new status.Done h = by (asked_of words) refl
  where
    by : (r : Result Order Status) → asked_of words ≡ r → LeavesReport r files after.files
    by (Ok (order.Build wad name out cert (Some report) workers method)) e = holds_report words files before after old new wad name out report cert workers method h e
    by (Ok asked) e = tt
    by (Err refusal) e = tt
reports words files before after old new s h = tt

pub reports_if_ok : {E : Type 0} (words : List (List ℕ)) (files : Files) (before after : ShelfState) (old new : SinkState) (r : Result Status E) → IfOk r (RunsWords words files before after old new) → IfOk r (Reports words files after.files)
reports_if_ok words files before after old new (Ok s) h = reports words files before after old new s h
reports_if_ok words files before after old new (Err e) h = h
