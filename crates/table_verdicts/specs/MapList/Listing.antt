-- What is listed of maps of a WAD.
use Rattle.std.specs.Prelude.{◌≡◌, ℕ, Bool, List, string_bytes}
use Rattle.wad_dir.specs.Wad.{WadFile}
use Rattle.row_spelling.specs.declared.Spelling.{Spelling}
use Rattle.table_verdicts.specs.declared.map_list.listing.MapList.{MapList}
use Rattle.table_verdicts.specs.MapList.Entry.{entries_of}
use Rattle.table_verdicts.specs.MapList.Lines.{lines_of_maps}
use Rattle.table_verdicts.specs.MapList.Totals.{list_tally_of}

-- the report and the counts are those of the maps of these names
pub record ShowsList (w : WadFile) (large : Bool) (names : List (List ℕ)) (spelled : Spelling) (given : MapList) : Type 0 where
  pub report : string_bytes given.report ≡ lines_of_maps spelled (entries_of w large names)
  pub tally : given.tally ≡ list_tally_of (entries_of w large names)
