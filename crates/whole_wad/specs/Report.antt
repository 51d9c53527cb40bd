-- What the report says of each map.
use Rattle.std.specs.Prelude.{ℕ, List, ◌++◌, Result, Ok, Err, codes, length}
use Rattle.std.specs.Fmt.{decimal}
use Rattle.std.specs.List.{flat_map}
use Rattle.std.specs.Str.{trim_end}
use Rattle.map_answers.specs.declared.sight_status.status.Status.{Status}
use Rattle.map_answers.specs.SightStatus.Texts.{reason_words}
use Rattle.map_answers.specs.declared.counts.Counts.{Counts}
use Rattle.map_answers.specs.Counts.{counts_with}
use Rattle.whole_wad.specs.declared.fate.Fate.{Fate}
use Rattle.whole_wad.specs.declared.fate.Fate.TheVariants as fate
use Rattle.whole_wad.specs.declared.outcomes.MapOutcome.{MapOutcome}
use Rattle.whole_wad.specs.declared.tables.MapTable.{MapTable}
use Rattle.wad_dir.specs.AllMaps.Names.{name_before_nul}
use Rattle.row_spelling.specs.declared.Spelling.{Spelling}
use Rattle.row_spelling.specs.declared.Spelling.TheVariants as spelling
use Rattle.row_spelling.specs.Quoted.{quoted}

-- how many pairs are set, clear and listed
abbrev pub totals_words : Counts → List ℕ
totals_words c = codes " set " ++ decimal c.set ++ codes " clear " ++ decimal c.clear ++ codes " listed " ++ decimal c.listed

-- the counts of the table, or the refusal without the end of its line
abbrev pub made_words : Result MapTable Status → List ℕ
made_words (Ok made) = totals_words (counts_with made.table (length made.listed))
made_words (Err refusal) = codes " refused " ++ trim_end (reason_words refusal)

-- what becomes of the map's REJECT
abbrev pub fate_words : Fate → List ℕ
fate_words (fate.Changed bits) = codes " changed " ++ decimal bits
fate_words (fate.Replaced len) = codes " replaced " ++ decimal len ++ codes " bytes"
fate_words fate.KeptSet = codes " kept set"
fate_words fate.KeptClear = codes " kept clear"
fate_words (fate.Cleared table) = codes " cleared"

-- one line: the name, the counts of the table or the refusal, and what becomes of the REJECT
abbrev pub map_line : MapOutcome → List ℕ
map_line outcome = name_before_nul outcome.name ++ made_words outcome.made ++ fate_words outcome.fate ++ codes "\n"

-- ---- the same as a JSON object, whose members are named by the words of the line

abbrev pub totals_json : Counts → List ℕ
totals_json c = codes ",\"set\":" ++ decimal c.set ++ codes ",\"clear\":" ++ decimal c.clear ++ codes ",\"listed\":" ++ decimal c.listed

abbrev pub made_json : Result MapTable Status → List ℕ
made_json (Ok made) = totals_json (counts_with made.table (length made.listed))
made_json (Err refusal) = codes ",\"refused\":" ++ quoted (trim_end (reason_words refusal))

abbrev pub fate_json : Fate → List ℕ
fate_json (fate.Changed bits) = codes ",\"changed\":" ++ decimal bits
fate_json (fate.Replaced len) = codes ",\"replaced\":" ++ decimal len
fate_json fate.KeptSet = codes ",\"kept\":\"set\""
fate_json fate.KeptClear = codes ",\"kept\":\"clear\""
fate_json (fate.Cleared table) = codes ",\"cleared\":true"

abbrev pub map_json : MapOutcome → List ℕ
map_json outcome = codes "{\"map\":" ++ quoted (name_before_nul outcome.name) ++ made_json outcome.made ++ fate_json outcome.fate ++ codes "}\n"

-- ---- the report

-- one line in this spelling
abbrev pub map_row : Spelling → MapOutcome → List ℕ
map_row spelling.Text outcome = map_line outcome
map_row spelling.Json outcome = map_json outcome

-- one line a map
abbrev pub outcomes_report : Spelling → List MapOutcome → List ℕ
outcomes_report spelled outcomes = flat_map (map_row spelled) outcomes
