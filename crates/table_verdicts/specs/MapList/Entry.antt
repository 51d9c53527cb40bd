-- What is listed of a map: its format, how great it is, and what its REJECT holds.
use Rattle.std.specs.Prelude.{ℕ, ◌+◌, ◌*◌, ◌==◌, Bool, nat_lt, List, length, map, Option, Some, None, Result, Ok, Err, if◌then◌else◌}
use Rattle.sight_names.specs.declared.names.MapFormat.{MapFormat}
use Rattle.sight_names.specs.declared.names.MapFormat.TheVariants as formats
use Rattle.sight_names.specs.Map.{Map}
use Rattle.sight_names.specs.Points.{lines_of, points_of}
use Rattle.sight_names.specs.Table.{table_bit}
use Rattle.table_compare.specs.Counts.{pairs_by}
use Rattle.wad_dir.specs.AllMaps.Names.{name_before_nul}
use Rattle.wad_dir.specs.Map.{spot_of}
use Rattle.wad_dir.specs.Wad.{WadFile, names_of_lumps}
use Rattle.map_answers.specs.declared.sight_status.status.Status.{Status}
use Rattle.udmf_map.specs.Lumps.{places_told}
use Rattle.map_answers.specs.Input.{lump_at, map_named}
use Rattle.whole_wad.specs.Rejects.{reject_named, table_len}
use Rattle.table_verdicts.specs.declared.map_list.entry.ListedFormat.{ListedFormat}
use Rattle.table_verdicts.specs.declared.map_list.entry.ListedFormat.TheVariants.{Doom, Hexen, Udmf}
use Rattle.table_verdicts.specs.declared.map_list.entry.MapSizes.{MapSizes}
use Rattle.table_verdicts.specs.declared.map_list.entry.Said.{Said}
use Rattle.table_verdicts.specs.declared.map_list.entry.Said.TheVariants as said
use Rattle.table_verdicts.specs.declared.map_list.entry.MapEntry.{MapEntry}

-- the decimal places of the unit in which the points of a map are told whose LINEDEFS, or whose text, has these bytes
abbrev pub places_of_unit : MapFormat → List ℕ → ℕ
places_of_unit formats.Doom linedefs = 0
places_of_unit formats.Hexen linedefs = 0
places_of_unit formats.Text text = places_told text

-- how the format of such a map is listed
abbrev pub listed_format : MapFormat → List ℕ → ListedFormat
listed_format formats.Doom linedefs = Doom
listed_format formats.Hexen linedefs = Hexen
listed_format formats.Text text = Udmf (places_of_unit formats.Text text)

-- the format of the map of a name, Doom's where there is none
abbrev pub format_named : WadFile → List ℕ → ListedFormat
format_named w name = elim (spot_of (names_of_lumps w) name) [ Ok spot ↦ listed_format spot.format (lump_at w spot.linedefs) | Err fault ↦ Doom ]

-- the bit of the pair is set in the bytes
abbrev pub is_bit_set : ℕ → List ℕ → ℕ → ℕ → Bool
is_bit_set n reject a b = table_bit reject (a * n + b) == 1

-- how many pairs of so many sectors have their bit set in the bytes; none are counted where these are too few for a table
abbrev pub set_bits : ℕ → List ℕ → Option ℕ
set_bits n reject = if nat_lt (length reject) (table_len n) then None else Some (pairs_by (is_bit_set n reject) n)

-- how great a map of this format is, and what a REJECT of these bytes has of it
abbrev pub listed_sizes_of : Map → ListedFormat → List ℕ → MapSizes
listed_sizes_of m format reject = record {
  format = format;
  lines = length (lines_of m);
  points = length (points_of m);
  sectors = m.sectors;
  found = length reject;
  expected = table_len m.sectors;
  set = set_bits m.sectors reject;
}

-- what is said of a map that was read, or why none was
abbrev pub said_of_map : Result Map Status → ListedFormat → List ℕ → Said
said_of_map (Ok m) format reject = said.Read (listed_sizes_of m format reject)
said_of_map (Err refusal) format reject = said.Refused refusal

-- .. of the map of a name, by the usual limits or the larger ones, and its own REJECT
abbrev pub entry_named : WadFile → Bool → List ℕ → MapEntry
entry_named w large name = record { name = name; said = said_of_map (map_named large w (name_before_nul name)) (format_named w (name_before_nul name)) (reject_named w (name_before_nul name)) }

-- .. of each map of these names
abbrev pub entries_of : WadFile → Bool → List (List ℕ) → List MapEntry
entries_of w large names = map (entry_named w large) names
