-- How the words of a command line end, with the listeners that a report asks for.
use Rattle.std.specs.Prelude.{◌≡◌, ℕ, Bool, true, false, List, [], ◌++◌, Option, Some, Result, Ok, ⊤}
use Rattle.listeners.specs.declared.finding.Finding.{Finding}
use Rattle.listeners.specs.Listening.{ListenerState}
use Rattle.listeners.specs.Reporters.{new_reporters}
use Rattle.listeners.specs.Texts.{finding_lines, totals_line}
use Rattle.order_words.specs.declared.order.Order.{Order}
use Rattle.order_words.specs.declared.order.Order.TheVariants as order
use Rattle.order_words.specs.declared.order.Source.{Source}
use Rattle.order_words.specs.Words.{order_of}
use Rattle.shelf_io.specs.Shelf.{Files, ShelfState}
use Rattle.shelf_io.specs.Sink.{SinkState}
use Rattle.sight_names.specs.declared.names.Method.{Method}
use Rattle.map_answers.specs.declared.sight_status.status.Status.{Status}
use Rattle.map_answers.specs.declared.sight_status.status.Status.TheVariants as status
use Rattle.map_answers.specs.SightStatus.Status.{exit_status_of}
use Rattle.sight_run.specs.Heard.{AreFindingsIn, ListenersHeard, Hears}
use Rattle.sight_run.specs.Run.{RunEnds}
use Rattle.sight_run.specs.Words.{asked_of}

-- the exit code of a run of words that ended so; an audit that reports faults ends as one that refuses their map
abbrev pub ended_number : Bool → Status → ℕ
ended_number true status.NotRight = 10
ended_number audits s = exit_status_of s

-- the order is a build of one map with a report
abbrev pub is_reported : Option Order → Bool
is_reported (Some (order.Build wad name out cert (Some report) workers method)) = true
is_reported other = false

-- its listeners write the lines and the totals of the report; other orders have none
abbrev pub listeners_where : Bool → List ListenerState
listeners_where true = new_reporters
listeners_where false = []

-- some listeners that were these heard what the status says of the words
pub record HearsGiven (given : List ListenerState) (words : List (List ℕ)) (told : Option Files) (s : Status) : Type 0 where
  pub heard : ListenersHeard
  pub given_are : heard.before ≡ given
  pub hears : Hears (asked_of words) told heard s

-- all that `run` promises of the words, with these listeners before it
pub record RunsHeard (given : List ListenerState) (words : List (List ℕ)) (files : Files) (before after : ShelfState) (old new : SinkState) (s : Status) : Type 0 where
  pub heard : ListenersHeard
  pub given_are : heard.before ≡ given
  pub ends : RunEnds words files heard before after old new s
  pub hears : Hears (asked_of words) (Some files) heard s

-- .. with those that the order asks for
abbrev pub RunsWords : List (List ℕ) → Files → ShelfState → ShelfState → SinkState → SinkState → Status → Type 0
RunsWords words files before after old new s = RunsHeard (listeners_where (is_reported (order_of words))) words files before after old new s

-- ---- what a report holds

-- the lines of the findings of the map by this method, and their totals
pub record IsFindingsReport (files : Files) (wad : Source) (name : List ℕ) (method : Method) (report : List ℕ) : Type 0 where
  pub findings : List Finding
  pub are : AreFindingsIn (Some files) wad name method findings
  pub is : report ≡ finding_lines findings ++ totals_line findings

-- the file of this name is such a report
pub record HoldsReport (files : Files) (after : Option Files) (wad : Source) (name report : List ℕ) (method : Method) : Type 0 where
  pub others : Files
  pub told : after ≡ Some others
  pub bytes : List ℕ
  pub stands : others report ≡ Some bytes
  pub is : IsFindingsReport files wad name method bytes

-- where the order is a build of one map with a report, this stands in the report's file
abbrev pub LeavesReport : Result Order Status → Files → Option Files → Type 0
LeavesReport (Ok (order.Build wad name out cert (Some report) workers method)) files after = HoldsReport files after wad name report method
LeavesReport asked files after = ⊤

-- .. where it is done
abbrev pub Reports : List (List ℕ) → Files → Option Files → Status → Type 0
Reports words files after status.Done = LeavesReport (asked_of words) files after
Reports words files after other = ⊤
