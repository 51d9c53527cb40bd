-- The REJECT of a map, the all-clear one, and what becomes of one where maps of a WAD are built.
use Rattle.std.specs.Prelude.{ℕ, ◌*◌, ◌==◌, Bool, List, [], length, replicate, Option, Some, None, Result, Ok, Err, if◌then◌else◌}
use Rattle.std.specs.Int.{div_ceil}
use Rattle.std.specs.List.{list_all}
use Rattle.sight_names.specs.Map.{Map}
use Rattle.wad_dir.specs.Map.{spot_of}
use Rattle.wad_dir.specs.Wad.{WadFile, names_of_lumps}
use Rattle.table_compare.specs.Compared.{bits_changed}
use Rattle.refused_maps.specs.declared.Refused.{Refused}
use Rattle.refused_maps.specs.declared.Refused.TheVariants as refused
use Rattle.map_answers.specs.declared.sight_status.status.Status.{Status}
use Rattle.map_answers.specs.Input.{lump_at}
use Rattle.whole_wad.specs.declared.fate.Fate.{Fate}
use Rattle.whole_wad.specs.declared.fate.Fate.TheVariants as fate
use Rattle.whole_wad.specs.declared.tables.MapTable.{MapTable}

-- ---- the REJECT of a map

-- the bytes of the map's REJECT, none where it is missing
abbrev pub reject_at : WadFile → Option ℕ → List ℕ
reject_at file None = []
reject_at file (Some k) = lump_at file k

-- those of the map of a name
abbrev pub reject_named : WadFile → List ℕ → List ℕ
reject_named file name = elim (spot_of (names_of_lumps file) name) [ Ok spot ↦ reject_at file spot.reject | Err fault ↦ [] ]

-- the bytes of a table of n sectors
abbrev pub table_len : ℕ → ℕ
table_len n = div_ceil (n * n) 8

-- the table in which no bit is set
abbrev pub clear_table : ℕ → List ℕ
clear_table n = replicate (table_len n) 0

-- no bit of the bytes is set
abbrev pub has_no_bit : List ℕ → Bool
has_no_bit bytes = list_all (λ c. c == 0) bytes

-- ---- what becomes of it

-- a table takes its place: how many bits it changes, or how long the REJECT was where it has another length
abbrev pub fate_built : List ℕ → List ℕ → Fate
fate_built old new = if length old == length new then fate.Changed (bits_changed old new) else fate.Replaced (length old)

abbrev pub fate_kept : List ℕ → Fate
fate_kept old = if has_no_bit old then fate.KeptClear else fate.KeptSet

-- the map gets no table; its sectors can be counted where it was read
abbrev pub fate_refused : Refused → Result Map Status → List ℕ → Fate
fate_refused refused.Clear (Ok m) old = fate.Cleared (record { n = m.sectors; bytes = clear_table m.sectors })
fate_refused other said old = fate_kept old

-- what becomes of these bytes of a map that was read, or of one that wasn't, by what it gets
abbrev pub fate_of : Refused → Result Map Status → List ℕ → Result MapTable Status → Fate
fate_of choice said old (Ok made) = fate_built old made.table.bytes
fate_of choice said old (Err refusal) = fate_refused choice said old
