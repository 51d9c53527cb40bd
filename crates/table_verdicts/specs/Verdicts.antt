-- What is said of the REJECT of maps of a WAD.
use Rattle.std.specs.Prelude.{◌≡◌, ℕ, Bool, List, map, string_bytes}
use Rattle.std.specs.List.{AllByRecursion}
use Rattle.wad_dir.specs.AllMaps.Names.{name_before_nul}
use Rattle.wad_dir.specs.Wad.{WadFile}
use Rattle.map_answers.specs.Input.{map_named}
use Rattle.row_spelling.specs.declared.Spelling.{Spelling}
use Rattle.table_verdicts.specs.declared.verdict.MapVerdict.{MapVerdict}
use Rattle.table_verdicts.specs.declared.verifying.WadVerdict.{WadVerdict}
use Rattle.whole_wad.specs.Rejects.{reject_named}
use Rattle.table_verdicts.specs.Report.{verdicts_report}
use Rattle.table_verdicts.specs.Tallies.{tally_of}
use Rattle.table_verdicts.specs.Verdict.{IsRejectVerdict}

-- of the map of a name, by the usual limits or the larger ones, and its own REJECT
abbrev pub SaysOf : WadFile → Bool → MapVerdict → Type 0
SaysOf w large v = IsRejectVerdict (map_named large w (name_before_nul v.name)) (reject_named w (name_before_nul v.name)) v.said

-- there is one verdict for each map of these names, in order
pub record AreVerdicts (w : WadFile) (large : Bool) (names : List (List ℕ)) (verdicts : List MapVerdict) : Type 0 where
  pub each : map (λ (v : MapVerdict). v.name) verdicts ≡ names
  pub says : AllByRecursion (SaysOf w large) verdicts

-- the report and the counts are those of what is said of the maps
pub record ShowsVerdicts (w : WadFile) (large : Bool) (names : List (List ℕ)) (spelled : Spelling) (given : WadVerdict) : Type 0 where
  pub verdicts : List MapVerdict
  pub are : AreVerdicts w large names verdicts
  pub report : string_bytes given.report ≡ verdicts_report spelled verdicts
  pub tally : given.tally ≡ tally_of verdicts
