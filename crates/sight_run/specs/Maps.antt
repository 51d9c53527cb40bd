-- What the order `maps` lists of the maps of a WAD.
use Rattle.std.specs.Prelude.{◌≡◌, true, ℕ, Bool, List, Option, Result, Ok}
use Rattle.order_words.specs.declared.order.ReportFile.{ReportFile}
use Rattle.shelf_io.specs.Shelf.{Files}
use Rattle.wad_dir.specs.Wad.{WadFile}
use Rattle.map_answers.specs.declared.sight_status.status.Status.{Status}
use Rattle.map_answers.specs.SightStatus.Answer.{Answer}
use Rattle.table_verdicts.specs.MapList.Entry.{entries_of}
use Rattle.table_verdicts.specs.MapList.Lines.{lines_of_maps}
use Rattle.table_verdicts.specs.MapList.Totals.{list_line, list_tally_of}
use Rattle.sight_run.specs.All.{OnRead}
use Rattle.sight_run.specs.Asked.{AskedMaps, asked_in}
use Rattle.sight_run.specs.Build.{report_writes}
use Rattle.sight_run.specs.Words.{file_in, spelling_in}

-- Nothing is written but the report, which has a line for each map of these names, and the line counts the maps of each kind.
abbrev pub list_answer : Option ReportFile → Bool → WadFile → List (List ℕ) → Answer
list_answer reported large w names = record {
  writes = report_writes (file_in reported) (lines_of_maps (spelling_in reported) (entries_of w large names));
  line = list_line (list_tally_of (entries_of w large names));
  right = true;
}

-- .. for the maps that are asked for
abbrev pub asked_answer : Option ReportFile → Bool → AskedMaps → Answer
asked_answer reported large asked = list_answer reported large asked.wad asked.maps

abbrev pub MapsListed : Option ReportFile → Bool → AskedMaps → Result Answer Status → Type 0
MapsListed reported large asked answer = answer ≡ Ok (asked_answer reported large asked)

-- The answer that `maps` calls for. Where names are given, the maps of these names alone are listed.
abbrev pub MapsCalls : List ℕ → Bool → Option (List (List ℕ)) → Option ReportFile → Files → Result Answer Status → Type 0
MapsCalls wad large only reported files answer = OnRead (asked_in wad only files) (MapsListed reported large) answer
