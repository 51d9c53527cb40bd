-- What the order `draw` makes of a map that was found: a picture and a line.
use Rattle.std.specs.Prelude.{◌≡◌, ℕ, List, Result, Ok, Err, ⊤}
use Rattle.sight_names.specs.Map.{Map}
use Rattle.reject_bits.specs.Parts.{TableParts}
use Rattle.order_words.specs.declared.order.View.{View}
use Rattle.order_words.specs.declared.order.View.TheVariants as view
use Rattle.map_answers.specs.declared.sight_status.status.Status.{Status}
use Rattle.map_answers.specs.declared.sight_status.status.Status.TheVariants as status
use Rattle.map_answers.specs.declared.sight_status.status.Why.TheVariants as why
use Rattle.map_answers.specs.SightStatus.Answer.{Answer}
use Rattle.map_answers.specs.SightStatus.Status.{IsOfTableTest}
use Rattle.map_answers.specs.Input.{LocatedMap, lump_at}
use Rattle.map_picture.specs.Picture.{NamedParts}
use Rattle.table_verdicts.specs.MapList.Entry.{places_of_unit}
use Rattle.draw_answers.specs.Drawn.{IsOfDrawTest}
use Rattle.draw_answers.specs.Faults.{DrawFaultsCalls}
use Rattle.draw_answers.specs.Heat.{DrawHeatCalls}
use Rattle.draw_answers.specs.Pair.{DrawPairCalls}
use Rattle.draw_answers.specs.Plan.{DrawPlanCalls}
use Rattle.draw_answers.specs.Row.{DrawRowCalls}
use Rattle.sight_run.specs.Build.{IsUnbuildable}
use Rattle.sight_run.specs.Check.{IsTableOfBytes, of_length, reject_bytes}

module _ (Called : TableParts → Result Answer Status → Type 0) (m : Map) where
  -- the answer is one that the table that these bytes spell calls for
  pub record IsCallIn (bytes : List ℕ) (answer : Result Answer Status) : Type 0 where
    pub table : TableParts
    pub spelled : IsTableOfBytes m.sectors bytes table
    pub called : Called table answer

  -- .. or the refusal where the bytes are none
  abbrev pub OnTable : Result (List ℕ) Status → Result Answer Status → Type 0
  OnTable (Ok bytes) answer = IsCallIn bytes answer
  OnTable (Err refusal) answer = answer ≡ Err refusal

-- the answers that the map's own table calls for
abbrev pub ByOwnTable : (TableParts → Result Answer Status → Type 0) → LocatedMap → Result Answer Status → Type 0
ByOwnTable Called found answer = OnTable Called found.map (of_length found.map.sectors (reject_bytes found)) answer

-- the decimal places of the unit in which the points of a map are told
abbrev pub places_of_map : LocatedMap → ℕ
places_of_map found = places_of_unit found.spot.format (lump_at found.wad found.spot.linedefs)

-- how the map is named in its pictures
abbrev pub named_in : LocatedMap → List ℕ → NamedParts
named_in found name = record { text = name; places = places_of_map found }

-- the answers to a row of the map's own table
abbrev pub RowOfMap : NamedParts → List ℕ → ℕ → LocatedMap → Result Answer Status → Type 0
RowOfMap name out a found answer = ByOwnTable (λ t. DrawRowCalls name out t a found.map) found answer

-- .. and to how much each sector may see by it
abbrev pub HeatOfMap : NamedParts → List ℕ → LocatedMap → Result Answer Status → Type 0
HeatOfMap name out found answer = ByOwnTable (λ t. DrawHeatCalls name out t found.map) found answer

-- the answers that a view of a map of this name calls for
abbrev pub ViewCalls : NamedParts → List ℕ → View → LocatedMap → Result Answer Status → Type 0
ViewCalls name out view.Plan found answer = DrawPlanCalls name out found.map answer
ViewCalls name out view.Faults found answer = DrawFaultsCalls name out found.map answer
ViewCalls name out (view.Row a) found answer = RowOfMap name out a found answer
ViewCalls name out view.Heat found answer = HeatOfMap name out found answer
ViewCalls name out (view.Pair pair budget) found answer = DrawPairCalls name out budget pair found.map answer

-- the answers that `draw` calls for: its picture tells lengths in map units, by the unit of the map that was found
abbrev pub DrawCalls : List ℕ → List ℕ → View → LocatedMap → Result Answer Status → Type 0
DrawCalls name out asked found answer = ViewCalls (named_in found name) out asked found answer

-- what drawing can end with once a map is found
abbrev pub IsOfDrawing : Status → Type 0
IsOfDrawing (status.No (why.Table fault)) = IsOfTableTest (status.No (why.Table fault))
IsOfDrawing other = IsOfDrawTest other

-- There is one picture, but for that of a pair, which may vary with the ray and with what is walked; where no map is found or the map isn't
-- sound that has one answer too.
abbrev pub HasOneDrawing : View → Result LocatedMap Status → Type 0
HasOneDrawing view.Plan said = ⊤
HasOneDrawing view.Faults said = ⊤
HasOneDrawing (view.Row a) said = ⊤
HasOneDrawing view.Heat said = ⊤
HasOneDrawing (view.Pair pair budget) said = IsUnbuildable said
