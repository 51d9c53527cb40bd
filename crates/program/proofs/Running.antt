-- What a run promises of words, with the listeners that it had.
use Rattle.std.proofs.Common.{◌≡◌, ◌∙◌, ℕ, true, List, [], ◌∷◌, Option, Some, Result, Ok, Err, IfOk, map, refl, sym, ap, ap₂, subst}
use Rattle.listeners.specs.Listening.{ListenerState}
use Rattle.listeners.specs.Reporters.{lines_state, new_reporters, totals_state}
use Rattle.order_words.specs.Words.{order_of}
use Rattle.shelf_io.specs.Shelf.{Files, ShelfState}
use Rattle.shelf_io.specs.Sink.{SinkState}
use Rattle.map_answers.specs.declared.sight_status.status.Status.{Status}
use Rattle.sight_run.specs.Heard.{Hears, heard_as}
use Rattle.sight_run.specs.Run.{RunEnds}
use Rattle.sight_run.specs.Words.{asked_of}
use Rattle.program.specs.Words.{HearsGiven, RunsHeard, RunsWords, is_reported, listeners_where}

pub runs : (words : List (List ℕ)) (files : Files) (told : Option Files) (given left : List ListenerState) (before after : ShelfState) (old new : SinkState) (s : Status) → told ≡ Some files
    → RunEnds words files (heard_as given left) before after old new s → Hears (asked_of words) told (heard_as given left) s → RunsHeard given words files before after old new s
runs words files told given left before after old new s e ends hears = record {
  heard = heard_as given left;
  given_are = refl;
  ends = ends;
  hears = subst (λ (t : Option Files). Hears (asked_of words) t (heard_as given left) s) e hears;
}

-- .. also where the files aren't told
pub hears_given : (words : List (List ℕ)) (told : Option Files) (given left others : List ListenerState) (s : Status) → Hears (asked_of words) told (heard_as given left) s → given ≡ others → HearsGiven others words told s
hears_given words told given left others s hears e = record { heard = heard_as given left; given_are = e; hears = hears }

hears_as : (words : List (List ℕ)) (told : Option Files) (given others : List ListenerState) (s : Status) → HearsGiven given words told s → given ≡ others → HearsGiven others words told s
hears_as words told given others s h e = record { heard = h.heard; given_are = h.given_are ∙ e; hears = h.hears }

pub hears_reported : {E : Type 0} (words : List (List ℕ)) (told : Option Files) (r : Result Status E) → is_reported (order_of words) ≡ true → IfOk r (HearsGiven new_reporters words told)
    → IfOk r (HearsGiven (listeners_where (is_reported (order_of words))) words told)
hears_reported words told (Ok s) asks h = hears_as words told new_reporters (listeners_where (is_reported (order_of words))) s h (ap listeners_where (sym asks))
hears_reported words told (Err e) asks h = h

-- the same, of equal listeners
pub runs_as : (words : List (List ℕ)) (files : Files) (given others : List ListenerState) (before after : ShelfState) (old new : SinkState) (s : Status) → RunsHeard given words files before after old new s → given ≡ others
    → RunsHeard others words files before after old new s
runs_as words files given others before after old new s h e = subst (λ (l : List ListenerState). RunsHeard l words files before after old new s) e h

-- the states of the two that are handed in where a report is asked for
pub both_given : {X : Type 0} (state : X → ListenerState) (list : List X) (a b : X) → list ≡ a ∷ b ∷ [] → state a ≡ lines_state [] → state b ≡ totals_state [] → map state list ≡ new_reporters
both_given state list a b are is_a is_b = ap (λ (l : List _). map state l) are ∙ ap₂ (λ (s t : ListenerState). s ∷ t ∷ []) is_a is_b

-- those are the ones that the order asks for
pub runs_reported : {E : Type 0} (words : List (List ℕ)) (files : Files) (before after : ShelfState) (old new : SinkState) (r : Result Status E) → is_reported (order_of words) ≡ true
    → IfOk r (RunsHeard new_reporters words files before after old new) → IfOk r (RunsWords words files before after old new)
runs_reported words files before after old new (Ok s) asks h = runs_as words files new_reporters (listeners_where (is_reported (order_of words))) before after old new s h (ap listeners_where (sym asks))
runs_reported words files before after old new (Err e) asks h = h
