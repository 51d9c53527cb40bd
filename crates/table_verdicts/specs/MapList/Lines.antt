-- The line of each map.
use Rattle.std.specs.Prelude.{ℕ, ◌-◌, ◌==◌, List, ◌++◌, replicate, Option, Some, None, codes, if◌then◌else◌}
use Rattle.std.specs.Fmt.{decimal}
use Rattle.std.specs.List.{flat_map}
use Rattle.wad_dir.specs.AllMaps.Names.{name_before_nul}
use Rattle.map_answers.specs.SightStatus.Texts.{reason_words}
use Rattle.row_spelling.specs.declared.Spelling.{Spelling}
use Rattle.row_spelling.specs.declared.Spelling.TheVariants as spelling
use Rattle.row_spelling.specs.Quoted.{quoted}
use Rattle.table_verdicts.specs.Report.{refused_json}
use Rattle.table_verdicts.specs.declared.map_list.entry.ListedFormat.{ListedFormat}
use Rattle.table_verdicts.specs.declared.map_list.entry.ListedFormat.TheVariants.{Doom, Hexen, Udmf}
use Rattle.table_verdicts.specs.declared.map_list.entry.MapSizes.{MapSizes}
use Rattle.table_verdicts.specs.declared.map_list.entry.Said.{Said}
use Rattle.table_verdicts.specs.declared.map_list.entry.Said.TheVariants as said
use Rattle.table_verdicts.specs.declared.map_list.entry.MapEntry.{MapEntry}

-- the last of so many decimal places, as a number: 0.1 for one, 0.001 for three
abbrev pub unit_of : ℕ → List ℕ
unit_of places = codes "0." ++ replicate (places - 1) 48 ++ codes "1"

-- the unit of a map whose numbers aren't whole map units
abbrev pub unit_words : ℕ → List ℕ
unit_words places = if places == 0 then codes "" else codes " unit " ++ unit_of places

abbrev pub format_words : ListedFormat → List ℕ
format_words Doom = codes " doom"
format_words Hexen = codes " hexen"
format_words (Udmf places) = codes " udmf" ++ unit_words places

-- how great it is
abbrev pub size_words : MapSizes → List ℕ
size_words s = codes " lines " ++ decimal s.lines ++ codes " points " ++ decimal s.points ++ codes " sectors " ++ decimal s.sectors

abbrev pub set_words : Option ℕ → List ℕ
set_words (Some set) = codes " set " ++ decimal set
set_words None = codes ""

-- how many bytes of how many there are, and how many bits are set
abbrev pub reject_words : MapSizes → List ℕ
reject_words s = codes " reject " ++ decimal s.found ++ codes " of " ++ decimal s.expected ++ set_words s.set

abbrev pub entry_said_words : Said → List ℕ
entry_said_words (said.Read sizes) = format_words sizes.format ++ size_words sizes ++ reject_words sizes ++ codes "\n"
entry_said_words (said.Refused refusal) = codes " refused " ++ reason_words refusal

abbrev pub entry_line : MapEntry → List ℕ
entry_line e = name_before_nul e.name ++ entry_said_words e.said

-- ---- the same as a JSON object, whose members are named by the words of the line

-- a string, so that no reader rounds it
abbrev pub unit_json : ℕ → List ℕ
unit_json places = if places == 0 then codes "" else codes ",\"unit\":\"" ++ unit_of places ++ codes "\""

abbrev pub format_json : ListedFormat → List ℕ
format_json Doom = codes ",\"format\":\"doom\""
format_json Hexen = codes ",\"format\":\"hexen\""
format_json (Udmf places) = codes ",\"format\":\"udmf\"" ++ unit_json places

abbrev pub size_json : MapSizes → List ℕ
size_json s = codes ",\"lines\":" ++ decimal s.lines ++ codes ",\"points\":" ++ decimal s.points ++ codes ",\"sectors\":" ++ decimal s.sectors

abbrev pub set_json : Option ℕ → List ℕ
set_json (Some set) = codes ",\"set\":" ++ decimal set
set_json None = codes ""

abbrev pub reject_json : MapSizes → List ℕ
reject_json s = codes ",\"reject\":" ++ decimal s.found ++ codes ",\"of\":" ++ decimal s.expected ++ set_json s.set

abbrev pub entry_said_json : Said → List ℕ
entry_said_json (said.Read sizes) = format_json sizes.format ++ size_json sizes ++ reject_json sizes
entry_said_json (said.Refused refusal) = refused_json refusal

abbrev pub entry_json : MapEntry → List ℕ
entry_json e = codes "{\"map\":" ++ quoted (name_before_nul e.name) ++ entry_said_json e.said ++ codes "}\n"

-- ---- the list

-- one line in this spelling
abbrev pub entry_row : Spelling → MapEntry → List ℕ
entry_row spelling.Text e = entry_line e
entry_row spelling.Json e = entry_json e

-- one line a map
abbrev pub lines_of_maps : Spelling → List MapEntry → List ℕ
lines_of_maps spelled entries = flat_map (entry_row spelled) entries
