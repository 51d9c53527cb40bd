-- What the listeners of a run hear: the findings of a build, and else nothing.
use Rattle.std.specs.Prelude.{◌≡◌, ◌⊎◌, ℕ, List, Option, Some, None, Result, Ok, Err, ⊤}
use Rattle.sight_names.specs.declared.names.Method.{Method}
use Rattle.sight_names.specs.declared.names.Budget.{Budget}
use Rattle.sight_names.specs.Enough.{IsBudgetOf}
use Rattle.sight_names.specs.Map.{Map}
use Rattle.listeners.specs.declared.finding.Finding.{Finding}
use Rattle.listeners.specs.Findings.{AreFindingsOfMap}
use Rattle.listeners.specs.Listening.{ListenerState}
use Rattle.listeners.specs.Told.{AreFindingsTold, HeardFronts}
use Rattle.shelf_io.specs.Shelf.{Files}
use Rattle.order_words.specs.declared.order.Order.{Order}
use Rattle.order_words.specs.declared.order.Order.TheVariants as order
use Rattle.order_words.specs.declared.order.Source.{Source}
use Rattle.map_answers.specs.declared.sight_status.status.Role.TheVariants as role
use Rattle.map_answers.specs.declared.sight_status.status.Status.{Status}
use Rattle.map_answers.specs.declared.sight_status.status.Status.TheVariants as status
use Rattle.map_answers.specs.Input.{LocatedMap}
use Rattle.whole_wad.specs.Built.{ask_of}
use Rattle.sight_run.specs.Reading.{found_of}

-- the listeners before a call and after it
pub record ListenersHeard : Type 0 where
  pub before : List ListenerState
  pub after : List ListenerState

abbrev pub heard_as : List ListenerState → List ListenerState → ListenersHeard
heard_as before after = record { before = before; after = after }

-- all are as before
abbrev pub IsUnheard : ListenersHeard → Type 0
IsUnheard heard = heard.after ≡ heard.before

-- findings of a kind were told: each listener heard all of them, and is gone where the last set pair of its quota was among them
abbrev pub AllHeard : (List Finding → Type 0) → ListenersHeard → Type 0
AllHeard Are heard = (findings : List Finding) × Are findings × (report : List ℕ) × AreFindingsTold findings heard.before heard.after report

-- each listener that is left heard a front of such findings
abbrev pub FrontsHeard : (List Finding → Type 0) → ListenersHeard → Type 0
FrontsHeard Are heard = (findings : List Finding) × Are findings × HeardFronts findings heard.before heard.after

-- what a status of a build says of the listeners
abbrev pub BuildHears : (List Finding → Type 0) → ListenersHeard → Status → Type 0
BuildHears Are heard status.Done = AllHeard Are heard
BuildHears Are heard status.NotRight = AllHeard Are heard
-- the line of a refusal, or of what was done, couldn't be put
BuildHears Are heard (status.WriteFault role.Text) = IsUnheard heard ⊎ AllHeard Are heard
BuildHears Are heard (status.WriteFault role) = AllHeard Are heard
BuildHears Are heard (status.Memory _) = IsUnheard heard ⊎ FrontsHeard Are heard
BuildHears Are heard other = IsUnheard heard

-- ---- which findings

-- the findings of the map by this method
pub record AreFindingsOf (m : Map) (method : Method) (findings : List Finding) : Type 0 where
  pub allowed : Budget
  pub is_allowed : IsBudgetOf m (ask_of method) allowed
  pub are : AreFindingsOfMap m allowed findings

-- .. where a map was found
abbrev pub AreOfFound : Result LocatedMap Status → Method → List Finding → Type 0
AreOfFound (Ok found) method findings = AreFindingsOf found.map method findings
AreOfFound (Err refusal) method findings = ⊥

-- .. by the files. Where they aren't told, nothing is said of which findings were heard.
abbrev pub AreFindingsIn : Option Files → Source → List ℕ → Method → List Finding → Type 0
AreFindingsIn None wad name method findings = ⊤
AreFindingsIn (Some files) wad name method findings = AreOfFound (found_of wad name files) method findings

-- ---- by the order, and by the words

abbrev pub OrderHears : Order → Option Files → ListenersHeard → Status → Type 0
OrderHears (order.Build wad name out cert report workers method) files heard s = BuildHears (AreFindingsIn files wad name method) heard s
OrderHears asked files heard s = IsUnheard heard

-- what an order's listeners heard once its map was found
abbrev pub HearsOn : Order → LocatedMap → ListenersHeard → Status → Type 0
HearsOn (order.Build wad name out cert report workers method) found heard s = BuildHears (AreFindingsOf found.map method) heard s
HearsOn asked found heard s = IsUnheard heard

-- the listeners of a run that ends with this status
abbrev pub Hears : Result Order Status → Option Files → ListenersHeard → Status → Type 0
Hears (Ok asked) files heard s = OrderHears asked files heard s
Hears (Err refusal) files heard s = IsUnheard heard
