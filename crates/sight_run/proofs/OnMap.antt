-- The orders that ask of one map: what is said of the map that was found is said of the order.
use Rattle.std.proofs.Common.{◌≡◌, ℕ, List, Option, Some, None, Result, Ok, Err, refl, sym, subst}
use Rattle.std.specs.Prelude.{IfErr, IsSome}
use Rattle.shelf_io.specs.Shelf.{Files, SameCounts, ShelfState}
use Rattle.order_words.specs.declared.order.Order.{Order}
use Rattle.order_words.specs.declared.order.Order.TheVariants as order
use Rattle.order_words.specs.declared.order.Source.{Source}
use Rattle.row_spelling.specs.declared.Spelling.{Spelling}
use Rattle.sight_names.specs.declared.names.Method.{Method}
use Rattle.map_answers.specs.declared.sight_status.status.Status.{Status}
use Rattle.map_answers.specs.declared.sight_status.status.Status.TheVariants as status
use Rattle.map_answers.specs.Input.{LocatedMap, OnFound}
use Rattle.map_answers.specs.SightStatus.Answer.{Answer, GivesCalled}
use Rattle.sight_run.specs.Build.{with_report}
use Rattle.sight_run.specs.Heard.{ListenersHeard, HearsOn, IsUnheard}
use Rattle.sight_run.specs.Obeys.{CallsOn, HasOneOn, IsDetermined, IsDeterminedOn, IsOfMapAlone, MapAsked, Obeys, ObeysOn, map_asked, report_asked}
use Rattle.sight_run.specs.Reading.{found_of}
use Rattle.sight_run.specs.Run.{Cause, IsPastReading, IsUnstored}
use Rattle.sight_run.proofs.Building.{gives_plain}

-- ---- by the order

-- an answer that the map calls for is one that its order calls for
pub gives_obeyed : (asked : Order) (at : MapAsked) (files : Files) (heard : ListenersHeard) (found : LocatedMap) (r : Result Answer Status) → map_asked asked ≡ Some at → found_of at.wad at.name files ≡ Ok found
    → GivesCalled (HasOneOn asked (Ok found)) (CallsOn asked files heard found) r → GivesCalled (IsDetermined asked files) (Obeys asked files heard) r
gives_obeyed asked at files heard found r is e h =
    let told : GivesCalled (HasOneOn asked (found_of at.wad at.name files)) (OnFound (found_of at.wad at.name files) (CallsOn asked files heard)) r = rw e h in
    subst (λ (o : Option MapAsked). GivesCalled (IsDeterminedOn o asked files) (ObeysOn o asked files heard) r) (sym is) told

-- ---- by the map alone

pub alone_of : (asked : Order) → IsSome (map_asked asked) → ((wad : Source) (name cert : List ℕ) (spelled : Spelling) → asked ≡ order.Check wad name cert spelled → ⊥)
    → ((wad : Source) (name out : List ℕ) (cert report : Option (List ℕ)) (workers : ℕ) (method : Method) → asked ≡ order.Build wad name out cert report workers method → ⊥) → IsOfMapAlone asked
alone_of (order.Check wad name cert spelled) some no_check no_build = absurd (no_check wad name cert spelled refl)
alone_of (order.Build wad name out cert report workers method) some no_check no_build = absurd (no_build wad name out cert report workers method refl)
alone_of (order.Verify wad only report workers) some no_check no_build = absurd cc
alone_of (order.Grid n workers method hexen) some no_check no_build = absurd cc
alone_of (order.All wad out only report workers method choice) some no_check no_build = absurd cc
alone_of (order.Maps wad only report) some no_check no_build = absurd cc
alone_of asked some no_check no_build = tt

unreported : (asked : Order) → IsOfMapAlone asked → report_asked asked ≡ None
unreported (order.Build wad name out cert report workers method) alone = absurd alone
unreported asked alone = refl

-- such an order asks for no report
pub gives_alone : (asked : Order) (Sole : Type 0) (Called : Result Answer Status → Type 0) (report : List ℕ) (r : Result Answer Status) → IsOfMapAlone asked → GivesCalled Sole Called r → GivesCalled Sole Called (with_report (report_asked asked) report r)
gives_alone asked Sole Called report r alone h = subst (λ (o : Option (List ℕ)). GivesCalled Sole Called (with_report o report r)) (sym (unreported asked alone)) (gives_plain Sole Called report r h)

-- and tells no listener
pub unheard_alone : (asked : Order) (found : LocatedMap) (heard : ListenersHeard) (s : Status) → IsOfMapAlone asked → IsUnheard heard → HearsOn asked found heard s
unheard_alone (order.Build wad name out cert report workers method) found heard s alone h = absurd alone
unheard_alone asked found heard s alone h = h

-- ---- a call that asks the shelf for nothing

pub same_counts : (s : ShelfState) → SameCounts s s
same_counts s = record { read_faults = refl; write_faults = refl; absents = refl }

pub past_cause : {V : Type 0} (s : ShelfState) (r : Result V Status) → IfErr r IsPastReading → Cause s s r
past_cause s (Ok v) h = same_counts s
past_cause s (Err status.Done) h = absurd h
past_cause s (Err status.NotRight) h = absurd h
past_cause s (Err (status.NoFile k)) h = absurd h
past_cause s (Err (status.ReadFault k)) h = absurd h
past_cause s (Err (status.WriteFault k)) h = absurd h
past_cause s (Err (status.Memory _)) h = tt
past_cause s (Err other) h = same_counts s

pub past_unstored : {V : Type 0} (r : Result V Status) → IfErr r IsPastReading → IfErr r IsUnstored
past_unstored (Ok v) h = tt
past_unstored (Err status.Done) h = absurd h
past_unstored (Err status.NotRight) h = absurd h
past_unstored (Err (status.WriteFault k)) h = absurd h
past_unstored (Err other) h = tt
