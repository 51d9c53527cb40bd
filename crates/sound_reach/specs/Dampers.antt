-- The lines that block sound: flag 64 of a LINEDEFS record, whose flags are its third number (the Unofficial Doom Specs and
-- the Official Hexen Technical Specs on LINEDEFS).
use Rattle.std.specs.Prelude.{ℕ, ◌+◌, ◌*◌, ◌==◌, Bool, List, map}
use Rattle.std.specs.Int.{bit_at}
use Rattle.std.specs.List.{range_with_len}
use Rattle.sight_names.specs.declared.names.MapFormat.{MapFormat}
use Rattle.sight_names.specs.Lumps.{count_linedefs, linedef_len, u16_at}

-- record k has flag 64
abbrev pub is_damper : MapFormat → List ℕ → ℕ → Bool
is_damper format linedefs k = bit_at (u16_at linedefs (linedef_len format * k + 4)) 6 == 1

-- one entry for each record
abbrev pub dampers_of : MapFormat → List ℕ → List Bool
dampers_of format linedefs = map (is_damper format linedefs) (range_with_len 0 (count_linedefs format linedefs))
