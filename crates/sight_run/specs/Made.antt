-- What `grid` ends with. It reads no file, so this is said whatever the shelf tells.
use Rattle.std.specs.Prelude.{◌≡◌, ℕ, Bool, List, ◌++◌, Result, Ok, Err, ⊤}
use Rattle.std.specs.Option.{option_map}
use Rattle.sight_names.specs.declared.names.Method.{Method}
use Rattle.shelf_io.specs.Sink.{SinkState}
use Rattle.order_words.specs.declared.order.Order.{Order}
use Rattle.order_words.specs.declared.order.Order.TheVariants as order
use Rattle.map_answers.specs.declared.sight_status.status.Status.{Status}
use Rattle.map_answers.specs.declared.sight_status.status.Status.TheVariants as status
use Rattle.map_answers.specs.SightStatus.Answer.{only_line}
use Rattle.map_answers.specs.SightStatus.Texts.{text_of}
use Rattle.sight_run.specs.Grid.{GridCalls}

-- the line, or the refusal, is what the order calls for; memory may run out, and the line may not be put
abbrev pub GridSays : ℕ → Bool → Method → Status → List ℕ → Type 0
GridSays n hexen method status.Done line = GridCalls n hexen method (Ok (only_line line))
GridSays n hexen method (status.Memory _) line = ⊤
GridSays n hexen method (status.WriteFault role) line = ⊤
GridSays n hexen method refusal line = GridCalls n hexen method (Err refusal)

-- so it is of an order that reads no file
abbrev pub IsMadeBy : Order → Status → List ℕ → Type 0
IsMadeBy (order.Grid n workers method hexen) s line = GridSays n hexen method s line
IsMadeBy asked s line = ⊤

-- .. and of words that ask for it
abbrev pub IsLineMade : Result Order Status → Status → List ℕ → Type 0
IsLineMade (Ok asked) s line = IsMadeBy asked s line
IsLineMade (Err refusal) s line = ⊤

-- with Done such a line was put
abbrev pub PutsMade : Result Order Status → SinkState → SinkState → Status → Type 0
PutsMade said old new status.Done = (line : List ℕ) × IsLineMade said status.Done line × (new.held ≡ option_map (λ held. held ++ line) old.held)
PutsMade said old new refusal = IsLineMade said refusal (text_of refusal)
