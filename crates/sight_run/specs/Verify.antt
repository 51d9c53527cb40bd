-- What the order `verify` says of the REJECT of each map of a WAD.
use Rattle.std.specs.Prelude.{◌≡◌, ℕ, Bool, List, Option, Result, Ok, Err}
use Rattle.order_words.specs.declared.order.ReportFile.{ReportFile}
use Rattle.shelf_io.specs.Shelf.{Files}
use Rattle.map_answers.specs.declared.sight_status.status.Status.{Status}
use Rattle.map_answers.specs.SightStatus.Answer.{Answer}
use Rattle.table_verdicts.specs.declared.verdict.MapVerdict.{MapVerdict}
use Rattle.table_verdicts.specs.Report.{verdicts_report}
use Rattle.table_verdicts.specs.Tallies.{all_right, tally_line, tally_of}
use Rattle.table_verdicts.specs.Verdicts.{AreVerdicts}
use Rattle.sight_run.specs.All.{OnRead}
use Rattle.sight_run.specs.Asked.{AskedMaps, asked_in}
use Rattle.sight_run.specs.Build.{report_writes}
use Rattle.sight_run.specs.Words.{file_in, spelling_in}

-- There is one verdict for each map, in order. Nothing is written but the report, which says of each map how its REJECT differs from the
-- right table, or why it isn't judged. The line counts the maps of each kind, and all is right where none of them is wrong or short.
pub record ShowsVerify (reported : Option ReportFile) (large : Bool) (asked : AskedMaps) (answer : Answer) : Type 0 where
  pub verdicts : List MapVerdict
  pub are : AreVerdicts asked.wad large asked.maps verdicts
  pub is : answer ≡ record {
    writes = report_writes (file_in reported) (verdicts_report (spelling_in reported) verdicts);
    line = tally_line (tally_of verdicts);
    right = all_right (tally_of verdicts);
  }

-- the answer that is called for where these maps are to be looked at
abbrev pub MapsVerified : Option ReportFile → Bool → AskedMaps → Result Answer Status → Type 0
MapsVerified reported large asked (Ok answer) = ShowsVerify reported large asked answer
MapsVerified reported large asked (Err refusal) = ⊥

-- The answer that `verify` calls for. Where names are given, the maps of these names alone are looked at.
abbrev pub VerifyCalls : List ℕ → Bool → Option (List (List ℕ)) → Option ReportFile → Files → Result Answer Status → Type 0
VerifyCalls wad large only reported files answer = OnRead (asked_in wad only files) (MapsVerified reported large) answer
