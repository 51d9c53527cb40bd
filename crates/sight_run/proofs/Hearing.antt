-- What the listeners have heard where a call ends, by how far it came.
use Rattle.std.proofs.Common.{◌≡◌, ℕ, Bool, true, false, inl, inr, List, Option, Some, Result, Ok, Err, sym, subst}
use Rattle.listeners.specs.declared.finding.Finding.{Finding}
use Rattle.shelf_io.specs.Shelf.{Files, ShelfState}
use Rattle.shelf_io.specs.Sink.{SinkState}
use Rattle.order_words.specs.declared.order.Order.{Order}
use Rattle.order_words.specs.declared.order.Order.TheVariants as order
use Rattle.map_answers.specs.declared.sight_status.status.Role.{Role}
use Rattle.map_answers.specs.declared.sight_status.status.Role.TheVariants as role
use Rattle.map_answers.specs.declared.sight_status.status.Status.{Status}
use Rattle.map_answers.specs.declared.sight_status.status.Status.TheVariants as status
use Rattle.map_answers.specs.SightStatus.Say.{Refused, IsSaidLine, SaidIfMade}
use Rattle.map_answers.specs.SightStatus.Status.{IsOfMaking, done_as}
use Rattle.map_answers.specs.SightStatus.Texts.{text_of}
use Rattle.whole_wad.specs.Built.{IsOfBuilding}
use Rattle.sight_run.specs.Heard.{AllHeard, AreFindingsIn, BuildHears, ListenersHeard, Hears, IsUnheard, OrderHears}
use Rattle.sight_run.specs.Reply.{IsWriteFaultOf}
use Rattle.sight_run.specs.Run.{HasStatusLine, IsUnstored, RefusalCause}

-- ---- nothing was told

pub building_unstored : (s : Status) → IsOfBuilding s → IsUnstored s
building_unstored (status.BadMap flaw) h = tt
building_unstored (status.Memory _) h = tt
building_unstored s h = absurd h

pub making_unstored : (s : Status) → IsOfMaking s → IsUnstored s
making_unstored status.Done h = absurd h
making_unstored status.NotRight h = absurd h
making_unstored (status.WriteFault k) h = absurd h
making_unstored s h = tt

pub build_unheard : (Are : List Finding → Type 0) (heard : ListenersHeard) (s : Status) → IsUnheard heard → IsUnstored s → BuildHears Are heard s
build_unheard Are heard status.Done h early = absurd early
build_unheard Are heard status.NotRight h early = absurd early
build_unheard Are heard (status.WriteFault k) h early = absurd early
build_unheard Are heard (status.Memory _) h early = inl h
build_unheard Are heard s h early = h

-- ---- an output couldn't be stored

build_faulted : (Are : List Finding → Type 0) (heard : ListenersHeard) (k : Role) → AllHeard Are heard → BuildHears Are heard (status.WriteFault k)
build_faulted Are heard role.Text h = inr h
build_faulted Are heard k h = h

fault_hears : (asked : Order) (files : Option Files) (heard : ListenersHeard) (right : Bool) (k : Role) → OrderHears asked files heard (done_as right) → OrderHears asked files heard (status.WriteFault k)
fault_hears (order.Build wad name out cert report workers method) files heard true k h = build_faulted (AreFindingsIn files wad name method) heard k h
fault_hears (order.Build wad name out cert report workers method) files heard false k h = build_faulted (AreFindingsIn files wad name method) heard k h
fault_hears asked files heard right k h = h

pub broken_hears : (asked : Order) (files : Option Files) (heard : ListenersHeard) (right : Bool) (roles : List Role) (s : Status) → IsWriteFaultOf roles s → OrderHears asked files heard (done_as right) → OrderHears asked files heard s
broken_hears asked files heard right roles (status.WriteFault k) fault h = fault_hears asked files heard right k h
broken_hears asked files heard right roles s fault h = absurd fault

-- ---- the line couldn't be put

build_cut : (Are : List Finding → Type 0) (heard : ListenersHeard) (s : Status) → HasStatusLine s → BuildHears Are heard s → BuildHears Are heard (status.WriteFault role.Text)
build_cut Are heard status.Done has h = inr h
build_cut Are heard status.NotRight has h = inr h
build_cut Are heard (status.WriteFault role.Text) has h = h
build_cut Are heard (status.WriteFault k) has h = inr h
build_cut Are heard (status.Memory _) has h = absurd has
build_cut Are heard s has h = inl h

order_cut : (asked : Order) (files : Option Files) (heard : ListenersHeard) (s : Status) → HasStatusLine s → OrderHears asked files heard s → OrderHears asked files heard (status.WriteFault role.Text)
order_cut (order.Build wad name out cert report workers method) files heard s has h = build_cut (AreFindingsIn files wad name method) heard s has h
order_cut asked files heard s has h = h

line_cut : (asked : Result Order Status) (files : Option Files) (heard : ListenersHeard) (s : Status) → HasStatusLine s → Hears asked files heard s → Hears asked files heard (status.WriteFault role.Text)
line_cut (Ok asked) files heard s has h = order_cut asked files heard s has h
line_cut (Err refusal) files heard s has h = h

-- ---- there was no memory for the line

build_starved : (Are : List Finding → Type 0) (heard : ListenersHeard) (s : Status) → IsUnstored s → BuildHears Are heard s → BuildHears Are heard (status.Memory tt)
build_starved Are heard status.Done early h = absurd early
build_starved Are heard status.NotRight early h = absurd early
build_starved Are heard (status.WriteFault k) early h = absurd early
build_starved Are heard (status.Memory _) early h = h
build_starved Are heard s early h = inl h

order_starved : (asked : Order) (files : Option Files) (heard : ListenersHeard) (s : Status) → IsUnstored s → OrderHears asked files heard s → OrderHears asked files heard (status.Memory tt)
order_starved (order.Build wad name out cert report workers method) files heard s early h = build_starved (AreFindingsIn files wad name method) heard s early h
order_starved asked files heard s early h = h

line_starved : (asked : Result Order Status) (files : Option Files) (heard : ListenersHeard) (s : Status) → IsUnstored s → Hears asked files heard s → Hears asked files heard (status.Memory tt)
line_starved (Ok asked) files heard s early h = order_starved asked files heard s early h
line_starved (Err refusal) files heard s early h = h

-- ---- at the end of a run

module _ (asked : Result Order Status) (files : Option Files) (heard : ListenersHeard) (o n : SinkState) where
  hears_said : (s r : Status) (line : List ℕ) → HasStatusLine s → Hears asked files heard s → IsSaidLine s r o n line → Hears asked files heard r
  hears_said s r line has h (inl put) = subst (λ (t : Status). Hears asked files heard t) (sym put.status) h
  hears_said s r line has h (inr cut) = subst (λ (t : Status). Hears asked files heard t) (sym cut.status) (line_cut asked files heard s has h)

  pub hears_done : (right : Bool) (r : Status) (line : List ℕ) → Hears asked files heard (done_as right) → IsSaidLine (done_as right) r o n line → Hears asked files heard r
  hears_done true r line h said = hears_said status.Done r line tt h said
  hears_done false r line h said = hears_said status.NotRight r line tt h said

  hears_made : (s r : Status) → HasStatusLine s → IsUnstored s → Hears asked files heard s → SaidIfMade s r o n → Hears asked files heard r
  hears_made s r has early h (inl said) = hears_said s r (text_of s) has h said
  hears_made s r has early h (inr none) = subst (λ (t : Status). Hears asked files heard t) (sym none.status) (line_starved asked files heard s early h)

  pub hears_refused : (before after : ShelfState) (s r : Status) → RefusalCause before after s → Hears asked files heard s → Refused s r o n → Hears asked files heard r
  hears_refused before after status.Done r cause h said = absurd cause
  hears_refused before after status.NotRight r cause h said = absurd cause
  hears_refused before after (status.Memory _) r cause h said = subst (λ (t : Status). Hears asked files heard t) (sym said.status) h
  hears_refused before after (status.WriteFault role.Text) r cause h said = absurd cause
  hears_refused before after (status.WriteFault role.Wad) r cause h said = hears_said (status.WriteFault role.Wad) r _ tt h said
  hears_refused before after (status.WriteFault role.Cert) r cause h said = hears_said (status.WriteFault role.Cert) r _ tt h said
  hears_refused before after (status.WriteFault role.Report) r cause h said = hears_said (status.WriteFault role.Report) r _ tt h said
  hears_refused before after (status.WriteFault role.Picture) r cause h said = hears_said (status.WriteFault role.Picture) r _ tt h said
  hears_refused before after (status.ReadFault k) r cause h said = hears_made (status.ReadFault k) r tt tt h said
  hears_refused before after (status.No k) r cause h said = hears_made (status.No k) r tt tt h said
  hears_refused before after status.Usage r cause h said = hears_made status.Usage r tt tt h said
  hears_refused before after (status.NoFile k) r cause h said = hears_made (status.NoFile k) r tt tt h said
  hears_refused before after (status.NotWad k) r cause h said = hears_made (status.NotWad k) r tt tt h said
  hears_refused before after (status.NoMap k) r cause h said = hears_made (status.NoMap k) r tt tt h said
  hears_refused before after (status.BadLump k) r cause h said = hears_made (status.BadLump k) r tt tt h said
  hears_refused before after (status.BadText k) r cause h said = hears_made (status.BadText k) r tt tt h said
  hears_refused before after (status.Limit k) r cause h said = hears_made (status.Limit k) r tt tt h said
  hears_refused before after (status.BadMap k) r cause h said = hears_made (status.BadMap k) r tt tt h said
  hears_refused before after status.SameName r cause h said = hears_made status.SameName r tt tt h said

-- .. where the files are told
pub hears_in : (asked : Result Order Status) (told : Option Files) (files : Files) (heard : ListenersHeard) (s : Status) → told ≡ Some files → Hears asked told heard s → Hears asked (Some files) heard s
hears_in asked told files heard s e h = subst (λ (o : Option Files). Hears asked o heard s) e h
